use Rattle.std.proofs.Common.{arith}
use Rattle.std.proofs.lemmas.Grind.{common_steps}
use Rattle.rt_split.proofs.simple.+simple.Goals as goal

pub all-loop-member-preserved : goal.all-loop-member-preserved
all-loop-member-preserved t c = grind (arith, common_steps)

pub any-loop-member-preserved : goal.any-loop-member-preserved
any-loop-member-preserved t c = grind (arith, common_steps)
