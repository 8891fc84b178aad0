use Rattle.std.proofs.Common.{◌≡◌, ◌++◌, drop}
use Rattle.rt_relation.specs.Operators.{placed}
use Rattle.rt_relation.proofs.items.with_placed.Given as goal

abbrev pub invariant-loop-name : goal.invariant-loop-name
invariant-loop-name l = l.items ++ placed (drop l.name-index l.names) l.columns ≡ l.fn.so_far ++ placed l.names l.columns
