use Rattle.std.proofs.Common.{◌≡◌, ◌++◌, take}
use Rattle.rt_value.proofs.row.Row.push_copies.Given as goal

abbrev pub invariant-loop-cell : goal.invariant-loop-cell
invariant-loop-cell l = l.self ≡ l.initial.self ++ take l.cell-index l.cells
