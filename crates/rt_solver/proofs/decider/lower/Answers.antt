use Rattle.std.proofs.Common.{◌∙◌, ap, false, length}
use Rattle.std.proofs.lemmas.List.{length-replicate}
use Rattle.rt_solver.proofs.decider.lower.Goals as goal

pub returns-then-falls : goal.returns-then-falls
returns-then-falls c = ap length c.clear.ensures ∙ length-replicate (length c.args.heap.now) false
