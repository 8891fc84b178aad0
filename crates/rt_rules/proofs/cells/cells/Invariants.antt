use Rattle.std.proofs.Common.{◌≡◌, take}
use Rattle.rt_schema.specs.Cells.{cells}
use Rattle.rt_rules.proofs.cells.cells.Given as goal

abbrev pub invariant-loop-column : goal.invariant-loop-column
invariant-loop-column l = l.values ≡ cells (take l.column-index l.columns) l.row
