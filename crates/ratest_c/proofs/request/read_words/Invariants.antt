use Rattle.std.proofs.Common.{◌≡◌, ◌-◌, ◌≤◌, []}
use Rattle.ratest_c.specs.Frames.{texts_at}
use Rattle.ratest_c.proofs.request.read_words.Given as goal

abbrev pub invariant-loop : goal.invariant-loop
invariant-loop l = (l.counter ≤ l.count)
    × (texts_at (l.count - l.counter) l.words l.reader.rest.now ≡ texts_at l.count [] l.fn.reader.rest.now)
