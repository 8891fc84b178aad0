use Rattle.std.proofs.Common.{arith}
use Rattle.std.proofs.lemmas.Grind.{common_steps}
use Rattle.rt_split.proofs.moved.+names.Goals as goal

pub any_pred_names-loop-pred-preserved : goal.any_pred_names-loop-pred-preserved
any_pred_names-loop-pred-preserved t c = grind (arith, common_steps)
