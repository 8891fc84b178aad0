use Rattle.std.proofs.lemmas.Grind.{common_steps}
use Rattle.std.proofs.Common.{arith}
use Rattle.rt_noted.proofs.join.joint_rows.Goals as goal

pub loop-joint-preserved : goal.loop-joint-preserved
loop-joint-preserved c = grind (arith, common_steps)
