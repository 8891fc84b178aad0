use Rattle.std.proofs.Common.{◌≡◌, ◌++◌, drop}
use Rattle.rt_print.specs.Texts.{more_cells}
use Rattle.rt_print.proofs.cells.put_more.Given as goal

abbrev pub invariant-loop-value : goal.invariant-loop-value
invariant-loop-value l = l.text ++ more_cells (drop l.value-index l.row) ≡ l.fn.text ++ more_cells l.row
