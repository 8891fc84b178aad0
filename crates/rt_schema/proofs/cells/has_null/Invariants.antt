use Rattle.std.proofs.Common.{◌≡◌, drop}
use Rattle.std.specs.List.{list_any}
use Rattle.rt_schema.specs.Cells.{cells, is_null}
use Rattle.rt_schema.proofs.cells.has_null.Given as goal

abbrev pub invariant-loop-column : goal.invariant-loop-column
invariant-loop-column l = list_any is_null (cells l.columns l.row) ≡ list_any is_null (cells (drop l.column-index l.columns) l.row)
