use Rattle.std.proofs.Common.{◌≡◌, drop}
use Rattle.rt_relation.specs.Columns.{common_fit}
use Rattle.rt_relation.proofs.lists.common_fit.Given as goal

abbrev pub invariant-loop-column : goal.invariant-loop-column
invariant-loop-column l = common_fit (drop l.column-index l.columns) l.others ≡ common_fit l.columns l.others
