use Rattle.std.proofs.Common.{◌≡◌, ℕ, ◌≤◌, ◌+◌, true, length}
use Rattle.rt_formula.specs.Under.{is_marked, AreClosedFrom, StandsUnder}
use Rattle.rt_formula.proofs.marks.under.Given as goal

abbrev pub invariant-nodes : goal.invariant-nodes
invariant-nodes l = record {
  long : length l.marks ≡ l.fn.goal + 1;
  within : l.at ≤ l.fn.goal + 1;
  goal_is : is_marked l.marks l.fn.goal ≡ true;
  closed : AreClosedFrom l.dag l.fn.goal l.at l.marks;
  stand : (k : ℕ) → is_marked l.marks k ≡ true → StandsUnder l.dag l.fn.goal k;
}

abbrev pub decreases-nodes : goal.decreases-nodes
decreases-nodes l = l.at
