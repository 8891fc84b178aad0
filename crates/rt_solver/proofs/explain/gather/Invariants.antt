use Rattle.std.proofs.Common.{◌≤◌, length}
use Rattle.rt_solver.specs.Analysis.{IsGathered}
use Rattle.rt_solver.proofs.explain.gather.Given as goal

abbrev pub invariant-gather : goal.invariant-gather
invariant-gather g l = record {
  place : l.i ≤ length l.trail.steps;
  gathered : IsGathered (g.L.Adds.lines l.base.0) l.assume l.first l.trail l.i l.cut l.walk;
}

abbrev pub decreases-gather : goal.decreases-gather
decreases-gather g l = l.i
