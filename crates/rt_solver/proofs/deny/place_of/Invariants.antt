use Rattle.std.proofs.Common.{◌≡◌, ◌≤◌, length, true}
use Rattle.rt_clause.specs.Lists.{has}
use Rattle.rt_store.specs.Trail.{lits, oldest}
use Rattle.rt_solver.proofs.deny.place_of.Given as goal

abbrev pub invariant-place : goal.invariant-place
invariant-place l = (l.i ≤ length l.trail.steps) × (has (lits (oldest l.i l.trail.steps)) l.fn.lit ≡ true)

abbrev pub decreases-place : goal.decreases-place
decreases-place l = l.i
