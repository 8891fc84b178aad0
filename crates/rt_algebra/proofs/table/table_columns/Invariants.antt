use Rattle.std.proofs.Common.{◌≡◌, ◌++◌, drop}
use Rattle.rt_algebra.specs.TextColumns.{table_columns}
use Rattle.rt_algebra.proofs.table.table_columns.Given as goal

abbrev pub invariant-loop-column : goal.invariant-loop-column
invariant-loop-column g l = l.all ++ table_columns g.C.Column.named (drop l.column-index l.columns) ≡ table_columns g.C.Column.named l.columns
