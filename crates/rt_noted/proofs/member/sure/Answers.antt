use Rattle.std.proofs.lemmas.Grind.{common_steps}
use Rattle.std.proofs.Common.{arith}
use Rattle.rt_noted.proofs.member.sure.Goals as goal

pub loop-noted-preserved : goal.loop-noted-preserved
loop-noted-preserved c = grind (arith, common_steps)
