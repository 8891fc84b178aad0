use Rattle.std.proofs.lemmas.Grind.{common_steps}
use Rattle.std.proofs.Common.{arith}
use Rattle.rt_noted.proofs.rows.first_place.Goals as goal

pub loop-rows-preserved : goal.loop-rows-preserved
loop-rows-preserved c = grind (arith, common_steps)
