use Rattle.std.proofs.Common.{◌≡◌, ◌↔◌, IsTrue, ℕ, List, length, subst}
use Rattle.std.specs.List.Sorted.{IsStrictlyIncreasing}
use Rattle.std.specs.Fmt.{decimal}
use Rattle.std.specs.List.{AllByRecursion as Each}
use Rattle.rt_recorder.specs.Certificate.{IsNumber, spaced}
use Rattle.rt_recorder.specs.Reading.{Reads}
use Rattle.rt_recorder.proofs.LineLemmas.{no-places}
use Rattle.rt_recorder.proofs.lines.places.Goals as goal

pub returns-else-suit : goal.returns-else-suit
returns-else-suit c =
    no-places c.args.line.now c.in-Some.rest.now c.in-Some-2.places c.args.rows c.suit.result c.in-Some.ensures
    (subst (Reads (Each IsNumber) (spaced decimal) c.in-Some.rest.now) c.in-Some-2.is c.in_ok-places.ensures)
    (subst (λ (ps : List ℕ). IsTrue c.suit.result ↔ ((length ps ≡ c.args.rows) × IsStrictlyIncreasing ps)) c.as_slice.ensures c.suit.ensures) c.if-suit.false
