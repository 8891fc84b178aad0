use Rattle.std.proofs.Common.{◌≡◌, ◌<◌, length}
use Rattle.rt_store.specs.Trail.{lits, IsApart, oldest}
use Rattle.rt_solver.proofs.Visits.{IsVisit}
use Rattle.rt_solver.proofs.propagate.visit.Given as goal

abbrev pub invariant-watches : goal.invariant-watches
invariant-watches l = record {
  visit : IsVisit l.fn.clauses.items l.clauses.items l.watches.lists l.home l.left (lits (oldest l.fn.done l.fn.trail.steps)) l.fn.trail.steps l.trail.steps;
  apart : IsApart l.trail.vars l.trail.steps;
  vars : l.trail.vars ≡ l.fn.trail.vars;
  home : l.home < length l.watches.lists;
}

abbrev pub decreases-watches : goal.decreases-watches
decreases-watches l = l.left
