use Rattle.std.proofs.Common.{◌≡◌, ◌≤◌, length}
use Rattle.rt_store.specs.Trail.{oldest}
use Rattle.rt_solver.specs.Analysis.{IsWalked}
use Rattle.rt_solver.proofs.deny.resolve_below.Given as goal

abbrev pub invariant-resolve : goal.invariant-resolve
invariant-resolve g l = record {
  place : l.i ≤ length l.trail.steps;
  found : l.walk.found.items ≡ l.fn.walk.found.items;
  walked : IsWalked (g.L.Adds.lines l.base.0) l.assume l.trail.vars (oldest l.i l.trail.steps) l.walk;
}

abbrev pub decreases-resolve : goal.decreases-resolve
decreases-resolve g l = l.i
