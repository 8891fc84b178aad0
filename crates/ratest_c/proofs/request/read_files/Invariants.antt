use Rattle.std.proofs.Common.{◌≡◌, ◌-◌, ◌≤◌, []}
use Rattle.ratest_c.specs.Frames.{files_at}
use Rattle.ratest_c.proofs.request.read_files.Given as goal

abbrev pub invariant-loop : goal.invariant-loop
invariant-loop l = (l.counter ≤ l.count)
    × (files_at (l.count - l.counter) l.files l.reader.rest.now ≡ files_at l.count [] l.fn.reader.rest.now)
