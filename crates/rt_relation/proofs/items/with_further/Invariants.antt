use Rattle.std.proofs.Common.{◌≡◌, ◌++◌, drop}
use Rattle.rt_relation.specs.Operators.{further}
use Rattle.rt_relation.proofs.items.with_further.Given as goal

abbrev pub invariant-loop-column : goal.invariant-loop-column
invariant-loop-column l = l.items ++ further l.at (drop l.column-index l.columns) l.others ≡ l.fn.so_far ++ further l.fn.first l.columns l.others
