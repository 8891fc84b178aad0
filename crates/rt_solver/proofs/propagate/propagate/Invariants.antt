use Rattle.std.proofs.Common.{◌≡◌, ◌≤◌, ◌-◌, length}
use Rattle.rt_store.specs.Trail.{lits, oldest}
use Rattle.rt_store.specs.Same.{AreSame}
use Rattle.rt_solver.specs.Propagating.{IsQueued, IsPropagated, AreListed}
use Rattle.rt_solver.proofs.propagate.propagate.Given as goal

abbrev pub invariant-steps : goal.invariant-steps
invariant-steps l = record {
  place : l.done ≤ length l.trail.steps;
  vars : l.trail.vars ≡ l.fn.trail.vars;
  same : AreSame l.fn.clauses.items l.clauses.items;
  listed : AreListed l.clauses.items l.watches.lists;
  steps : IsPropagated l.fn.clauses.items l.fn.trail.steps l.trail.steps;
  queued : IsQueued l.clauses.items (lits (oldest l.done l.trail.steps)) l.trail.steps;
}

abbrev pub decreases-steps : goal.decreases-steps
decreases-steps l = l.trail.vars - l.done
