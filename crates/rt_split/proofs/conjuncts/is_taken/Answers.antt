use Rattle.std.proofs.Common.{arith}
use Rattle.std.proofs.lemmas.Grind.{common_steps}
use Rattle.rt_split.proofs.conjuncts.is_taken.Goals as goal

pub loop-width-preserved : goal.loop-width-preserved
loop-width-preserved c = grind (arith, common_steps)
