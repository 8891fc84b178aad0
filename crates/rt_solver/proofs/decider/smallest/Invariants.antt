use Rattle.rt_solver.specs.Picking.{AreSet}
use Rattle.rt_solver.proofs.decider.smallest.Given as goal

abbrev pub invariant-loop-v : goal.invariant-loop-v
invariant-loop-v l = AreSet l.from l.v l.trail.steps
