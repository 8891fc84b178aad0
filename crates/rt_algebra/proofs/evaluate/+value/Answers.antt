use Rattle.std.proofs.Common.{arith}
use Rattle.std.proofs.lemmas.Grind.{common_steps}
use Rattle.rt_algebra.proofs.evaluate.+value.Goals as goal

pub sum-loop-term-preserved : goal.sum-loop-term-preserved
sum-loop-term-preserved t c = grind (arith, common_steps)

pub product-loop-member-preserved : goal.product-loop-member-preserved
product-loop-member-preserved t c = grind (arith, common_steps)
