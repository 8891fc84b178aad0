use Rattle.std.proofs.Common.{◌≡◌, true, ℕ, ◌<◌, ◌≤◌, length}
use Rattle.std.specs.List.{list_all}
use Rattle.rt_clause.specs.Lists.{line_at}
use Rattle.rt_clause.specs.Refuting.{is_negation}
use Rattle.rt_derive.proofs.checker.Checker.denial.Given as goal

abbrev pub invariant-lines : goal.invariant-lines
invariant-lines l = record {
  within : l.i ≤ length l.fn.self.lines;
  none : (k : ℕ) → l.i ≤ k → k < length l.fn.self.lines → list_all (is_negation l.fn.assume l.fn.question) (line_at l.fn.self.lines k) ≡ true → ⊥;
}

abbrev pub decreases-lines : goal.decreases-lines
decreases-lines l = l.i
