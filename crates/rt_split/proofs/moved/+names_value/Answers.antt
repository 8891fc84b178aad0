use Rattle.std.proofs.Common.{arith}
use Rattle.std.proofs.lemmas.Grind.{common_steps}
use Rattle.rt_split.proofs.moved.+names_value.Goals as goal

pub any_names-loop-expr-preserved : goal.any_names-loop-expr-preserved
any_names-loop-expr-preserved t c = grind (arith, common_steps)
