use Rattle.std.proofs.Common.{◌≡◌}
use Rattle.rt_store.specs.Trail.{IsApart}
use Rattle.rt_solver.specs.Propagating.{IsPropagated}
use Rattle.rt_solver.proofs.Settling.{AreSettled}
use Rattle.rt_solver.proofs.propagate.settle.Given as goal

abbrev pub invariant-loop-n : goal.invariant-loop-n
invariant-loop-n l = record {
  vars : l.trail.vars ≡ l.fn.trail.vars;
  apart : IsApart l.trail.vars l.trail.steps;
  steps : IsPropagated l.clauses l.fn.trail.steps l.trail.steps;
  settled : AreSettled l.clauses l.short l.n-index l.trail.steps;
}
