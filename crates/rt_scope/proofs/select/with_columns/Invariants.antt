use Rattle.std.proofs.Common.{◌≡◌, drop}
use Rattle.rt_scope.specs.Select.{with_columns}
use Rattle.rt_scope.proofs.select.with_columns.Given as goal

abbrev pub invariant-loop-column : goal.invariant-loop-column
invariant-loop-column l = with_columns l.list l.at (drop l.column-index l.columns) ≡ with_columns l.fn.start l.first l.columns
