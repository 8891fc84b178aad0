-- A whole trail is a model, and where the first variables determine the rest, no later one is open.
use Rattle.std.proofs.Common.{◌≡◌, ℕ, ◌<◌, Bool, true, false, not, List, [], ◌∷◌, ◌++◌, length, length-append, slice_index_or, refl, subst, inl, inr, None, arith, zero, suc}
use Rattle.std.specs.Bool.{beq}
use Rattle.rt_clause.specs.Literal.{Literal}
use Rattle.rt_clause.specs.Lists.{has, is_false, line_at, IsMet, Closed, Decides, Determined}
use Rattle.rt_clause.specs.Models.{lit_true, IsModel}
use Rattle.rt_clause.proofs.Following.{clause_true-has}
use Rattle.rt_store.specs.declared.trail.Step.{Step}
use Rattle.rt_store.specs.Trail.{lits, value_in}
use Rattle.rt_solver.specs.Answers.{Reads}
use Rattle.rt_store.proofs.Tables.{value-has}
use Rattle.rt_store.proofs.FreshLaws.{absent-lit}

-- a literal that is not false is true
pub not-false-true : (m : ℕ) (t : List Step) (bools : List Bool) → Reads m t bools → (l : Literal) → l.var < m → is_false (lits t) l ≡ false → lit_true bools l ≡ true
not-false-true m t bools r l b n = by l.on (slice_index_or bools l.var false) (value-has t l.var (slice_index_or bools l.var false) (r l.var b)) n where
  by : (on x : Bool) → has (lits t) (record { var = l.var; on = x }) ≡ true → has (lits t) (record { var = l.var; on = not on }) ≡ false → beq x on ≡ true
  by true true h q = refl
  by false false h q = refl
  by true false h q = cc
  by false true h q = cc

-- a true literal is not false, so what the trail holds is true
pub whole-model : (m : ℕ) (lines : List (List Literal)) (t : List Step) (bools : List Bool) → Reads m t bools → Closed lines (lits t)
    → ((i : ℕ) → i < length lines → (l : Literal) → has (line_at lines i) l ≡ true → l.var < m) → IsModel lines bools
whole-model m lines t bools r c below i b = elim (c.met i b) [
  | inl x ↦ clause_true-has bools (line_at lines i) x.0 x.1 (not-false-true m t bools r x.0 (below i b x.0 x.1) (c.consistent x.0 x.2))
  | inr y ↦ clause_true-has bools (line_at lines i) y.0 y.2 (not-false-true m t bools r y.0 (below i b y.0 y.2) y.5)
]

line-front : (xs ys : List (List Literal)) (i : ℕ) → i < length xs → line_at (xs ++ ys) i ≡ line_at xs i
line-front [] ys i h = absurd (omega arith)
line-front (x ∷ xs) ys zero h = refl
line-front (x ∷ xs) ys (suc i) h = line-front xs ys i (omega arith)

pub closed-front : (lines more : List (List Literal)) (set : List Literal) → Closed (lines ++ more) set → Closed lines set
closed-front lines more set c = record {
  consistent = c.consistent;
  met = λ i b. let l = length-append lines more in let P : List Literal → Type 0 = IsMet set in subst P (line-front lines more i b) (c.met i (omega (arith, l, b)));
}

-- so a decision is below first
pub determined-decides : (lines more : List (List Literal)) (first m : ℕ) (t : List Step) → Determined lines first m → Closed (lines ++ more) (lits t) → Decides (lits t) first
    → (v : ℕ) → v < m → value_in t v ≡ None → ⊥
determined-decides lines more first m t d c f v b n =
    let x = d (lits t) (closed-front lines more (lits t) c) f v b in
    let a = absent-lit t (record { var = v; on = x.0 }) n in cc
