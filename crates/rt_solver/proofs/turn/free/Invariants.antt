use Rattle.std.proofs.Common.{◌≡◌, ℕ, ◌<◌, ◌≤◌, true, get_or, ◌⊎◌}
use Rattle.rt_clause.specs.Literal.{Literal}
use Rattle.rt_clause.specs.Lists.{is_false}
use Rattle.rt_store.specs.Trail.{lits}
use Rattle.rt_solver.proofs.turn.free.Given as goal

abbrev pub invariant-loop-j : goal.invariant-loop-j
invariant-loop-j l = (j : ℕ) (k : Literal) → l.from ≤ j → j < l.j → k ≡ get_or l.clause j k → (k ≡ l.other) ⊎ (is_false (lits l.trail.steps) k ≡ true)
