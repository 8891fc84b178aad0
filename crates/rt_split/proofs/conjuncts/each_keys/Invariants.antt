use Rattle.std.proofs.Common.{◌≡◌, ◌++◌, drop}
use Rattle.rt_split.specs.Split.{key_lists}
use Rattle.rt_split.proofs.conjuncts.each_keys.Given as goal

abbrev pub invariant-loop-width : goal.invariant-loop-width
invariant-loop-width l = l.out ++ key_lists l.base (drop l.width-index l.widths) l.conjuncts ≡ key_lists 0 l.widths l.conjuncts
