use Rattle.std.proofs.Common.{length}
use Rattle.rt_schema.proofs.cells.+same_cells.Given as goal

abbrev pub decreases-same_cells : goal.decreases-same_cells
decreases-same_cells l = length l.from.now
