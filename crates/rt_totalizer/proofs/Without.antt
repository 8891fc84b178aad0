-- Clauses without the literal that is never true, and how a number splits into two.
use Rattle.std.proofs.Common.{◌≡◌, ℕ, suc, ◌+◌, ◌-◌, ◌<◌, ◌≤◌, Bool, true, false, ◌||◌, inl, inr, List, [], ◌∷◌, refl, sym, ap, subst, ◌∙◌, arith}
use Rattle.rt_clause.specs.Literal.{Literal, lit_eq}
use Rattle.rt_clause.specs.Lists.{has}
use Rattle.rt_clause.specs.Models.{lit_true, clause_true}
use Rattle.rt_clause.proofs.Bools.{bool-cases}
use Rattle.rt_clause.proofs.Literals.{lit_eq-same, has-head, has-tail, has-cases}
use Rattle.rt_totalizer.specs.Merging.{without}
use Rattle.rt_totalizer.proofs.Rows.{le-cases}

pub without-has : (never : Literal) (clause : List Literal) (l : Literal) → has (without never clause) l ≡ true → has clause l ≡ true
without-has never [] l h = h
without-has never (k ∷ ks) l h = elim (bool-cases (lit_eq k never)) [
  | inl y ↦ has-tail k l ks (without-has never ks l (rw y at h))
  | inr y ↦ (let g : has (k ∷ without never ks) l ≡ true = rw y at h in
      elim (has-cases k l (without never ks) g) [
        | inl e ↦ (let P : Literal → Type 0 = λ j. has (k ∷ ks) j ≡ true in subst P (sym e) (has-head k ks))
        | inr r ↦ has-tail k l ks (without-has never ks l r)
      ])
]

-- where that literal is false it makes no difference
pub without-true : (bools : List Bool) (never : Literal) (clause : List Literal) → lit_true bools never ≡ false → clause_true bools (without never clause) ≡ clause_true bools clause
without-true bools never [] f = refl
without-true bools never (k ∷ ks) f = elim (bool-cases (lit_eq k never)) [
  | inl y ↦ rw y (without-true bools never ks f ∙ sym (ap (λ b. b || clause_true bools ks) (ap (lit_true bools) (lit_eq-same k never y) ∙ f)))
  | inr y ↦ rw y (ap (λ b. lit_true bools k || b) (without-true bools never ks f))
]

-- a true clause of three has its last literal true where the others are false
pub last-true : (bools : List Bool) (a b c : Literal) → clause_true bools (a ∷ b ∷ c ∷ []) ≡ true → lit_true bools a ≡ false → lit_true bools b ≡ false → lit_true bools c ≡ true
last-true bools a b c h f g = by (lit_true bools a) (lit_true bools b) (lit_true bools c) h f g where
  by : (x y z : Bool) → (x || (y || (z || false))) ≡ true → x ≡ false → y ≡ false → z ≡ true
  by true y z h f g = cc
  by false true z h f g = cc
  by false false true h f g = refl
  by false false false h f g = cc

-- a number that is no more than a sum
pub up-split : (a b k : ℕ) → k ≤ a + b → (i j : ℕ) × (i + j ≡ k) × (i ≤ a) × (j ≤ b)
up-split a b k h = elim (le-cases k a) [
  | inl y ↦ (k, 0, omega arith, y, omega arith)
  | inr y ↦ (a, k - a, omega arith, omega arith, omega arith)
]

-- a number that is more
pub down-split : (a b p q k : ℕ) → a + b < k → a ≤ p → b ≤ q → k ≤ p + q → (i j : ℕ) × (suc (i + j) ≡ k) × (a ≤ i) × (b ≤ j) × (i ≤ p) × (j ≤ q)
down-split a b p q k h f g t = elim (le-cases k (suc (p + b))) [
  | inl y ↦ (k - 1 - b, b, omega arith, omega arith, omega arith, omega arith, g)
  | inr y ↦ (p, k - 1 - p, omega arith, f, omega arith, omega arith, omega arith)
]
