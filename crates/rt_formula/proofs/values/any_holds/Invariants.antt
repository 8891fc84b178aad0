use Rattle.std.proofs.Common.{◌≡◌, take, false}
use Rattle.std.specs.List.{list_any}
use Rattle.rt_formula.specs.Shared.{bool_at}
use Rattle.rt_formula.proofs.values.any_holds.Given as goal

abbrev pub invariant-loop-k : goal.invariant-loop-k
invariant-loop-k l = list_any (bool_at l.values) (take l.k-index l.of) ≡ false
