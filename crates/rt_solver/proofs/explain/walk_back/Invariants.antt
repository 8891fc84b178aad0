use Rattle.std.proofs.Common.{◌≡◌, ◌≤◌, length, []}
use Rattle.rt_store.specs.Trail.{oldest}
use Rattle.rt_solver.specs.Analysis.{IsWalked}
use Rattle.rt_solver.proofs.explain.walk_back.Given as goal

abbrev pub invariant-seek : goal.invariant-seek
invariant-seek g l = record {
  place : l.i ≤ length l.trail.steps;
  none : l.walk.found.items ≡ [];
  walked : IsWalked (g.L.Adds.lines l.base.0) l.assume l.trail.vars (oldest l.i l.trail.steps) l.walk;
}

abbrev pub decreases-seek : goal.decreases-seek
decreases-seek g l = l.i
