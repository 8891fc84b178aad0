use Rattle.std.proofs.Common.{◌≡◌, take, true}
use Rattle.std.specs.List.{list_all}
use Rattle.rt_formula.specs.Shared.{bool_at}
use Rattle.rt_formula.proofs.values.all_hold.Given as goal

abbrev pub invariant-loop-k : goal.invariant-loop-k
invariant-loop-k l = list_all (bool_at l.values) (take l.k-index l.of) ≡ true
