use Rattle.std.proofs.Common.{◌≡◌, ℕ, ◌<◌, ◌≤◌, get_or}
use Rattle.rt_clause.specs.Literal.{Literal}
use Rattle.rt_store.proofs.clause.other.Given as goal

abbrev pub invariant-loop-j : goal.invariant-loop-j
invariant-loop-j l = (k : ℕ) (x : Literal) → 1 ≤ k → k < l.j → x ≡ get_or l.lits k x → x ≡ l.first
