use Rattle.std.proofs.Common.{◌≡◌, ◌++◌, drop}
use Rattle.rt_relation.specs.Columns.{names}
use Rattle.rt_relation.specs.Operators.{placed}
use Rattle.rt_relation.proofs.items.with_named.Given as goal

abbrev pub invariant-loop-other : goal.invariant-loop-other
invariant-loop-other l = l.items ++ placed (names (drop l.other-index l.others)) l.columns ≡ l.fn.so_far ++ placed (names l.others) l.columns
