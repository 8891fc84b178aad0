use Rattle.std.proofs.Common.{◌≡◌, ◌++◌, take}
use Rattle.rt_noted.proofs.copies.with_copies.Given as goal

abbrev pub invariant-loop-cell : goal.invariant-loop-cell
invariant-loop-cell l = l.out ≡ l.fn.out ++ take l.cell-index l.cells
