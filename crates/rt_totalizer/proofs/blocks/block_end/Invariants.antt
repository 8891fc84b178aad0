use Rattle.std.proofs.Common.{◌<◌}
use Rattle.rt_totalizer.proofs.blocks.block_end.Given as goal

abbrev pub invariant-loop-row : goal.invariant-loop-row
invariant-loop-row l = 0 < l.left
