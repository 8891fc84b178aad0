use Rattle.std.proofs.Common.{arith}
use Rattle.std.proofs.lemmas.Grind.{common_steps}
use Rattle.rt_algebra.proofs.cost.+size.Goals as goal

pub sizes-loop-item-preserved : goal.sizes-loop-item-preserved
sizes-loop-item-preserved t c = grind (arith, common_steps)
