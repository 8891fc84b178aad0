use Rattle.std.proofs.Common.{◌≡◌, ◌++◌, drop}
use Rattle.rt_split.specs.Split.{owns}
use Rattle.rt_split.proofs.conjuncts.each_owns.Given as goal

abbrev pub invariant-loop-width : goal.invariant-loop-width
invariant-loop-width l = l.out ++ owns l.base (drop l.width-index l.widths) l.conjuncts ≡ owns 0 l.widths l.conjuncts
