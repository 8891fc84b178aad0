use Rattle.std.proofs.Common.{◌≡◌, [], ◌∷◌, drop}
use Rattle.rt_ra.specs.Conditions.{tests}
use Rattle.rt_ra.proofs.conditions.more_tests.Given as goal

abbrev pub invariant-loop-next : goal.invariant-loop-next
invariant-loop-next l = tests l.all l.columns (drop l.next-index l.of) ≡ tests (l.fn.first ∷ []) l.columns l.of
