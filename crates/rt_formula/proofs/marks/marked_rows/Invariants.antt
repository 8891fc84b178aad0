use Rattle.std.proofs.Common.{◌≡◌, ◌≤◌, ℕ, true, Some, slice_get, length}
use Rattle.std.specs.List.{All as Each}
use Rattle.rt_formula.specs.declared.entry.Entry.{Entry}
use Rattle.rt_formula.specs.Shared.{named_rows}
use Rattle.rt_formula.specs.Under.{is_marked, RowStands}
use Rattle.rt_formula.proofs.marks.marked_rows.Given as goal

abbrev pub invariant-nodes : goal.invariant-nodes
invariant-nodes l = record {
  long : length l.rows ≡ l.fn.dag.rows;
  within : l.at ≤ length l.fn.marks;
  all : (k : ℕ) (e : Entry) → l.at ≤ k → slice_get l.fn.dag.entries k ≡ Some e → is_marked l.fn.marks k ≡ true → Each (λ v. is_marked l.rows v ≡ true) (named_rows e);
  only : (v : ℕ) → is_marked l.rows v ≡ true → RowStands l.fn.dag l.fn.goal v;
}

abbrev pub decreases-nodes : goal.decreases-nodes
decreases-nodes l = l.at
