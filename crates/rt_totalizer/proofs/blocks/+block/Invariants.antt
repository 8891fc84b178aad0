use Rattle.std.proofs.Common.{◌-◌}
use Rattle.rt_totalizer.proofs.blocks.+block.Given as goal

abbrev pub decreases-block : goal.decreases-block
decreases-block g l = l.high - l.low
