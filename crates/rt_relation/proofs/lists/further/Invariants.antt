use Rattle.std.proofs.Common.{◌≡◌, ◌++◌, drop}
use Rattle.rt_relation.specs.Columns.{further_columns}
use Rattle.rt_relation.proofs.lists.further.Given as goal

abbrev pub invariant-loop-column : goal.invariant-loop-column
invariant-loop-column l = l.all ++ further_columns (drop l.column-index l.columns) l.others ≡ further_columns l.columns l.others
