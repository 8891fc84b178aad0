use Rattle.std.proofs.lemmas.Grind.{common_steps}
use Rattle.std.proofs.Common.{arith}
use Rattle.rt_noted.proofs.joint.joined.Goals as goal

pub loop-first-preserved : goal.loop-first-preserved
loop-first-preserved c = grind (arith, common_steps)
