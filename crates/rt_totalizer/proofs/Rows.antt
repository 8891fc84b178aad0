-- Cells of a list that grows, and comparisons of numbers.
use Rattle.std.proofs.Common.{◌≡◌, ℕ, zero, suc, ◌<◌, ◌≤◌, nat_lt, nat_le, true, false, ◌⊎◌, inl, inr, List, [], ◌∷◌, ◌++◌, length, length-append, refl, sym, ap, subst, arith, rules}
use Rattle.rt_clause.specs.Literal.{Literal}
use Rattle.rt_clause.specs.Lists.{has, IsBelow}
use Rattle.rt_clause.proofs.Bools.{bool-cases}
use Rattle.rt_clause.proofs.Literals.{has-head, has-tail, has-cases, has-append_cases}
use Rattle.rt_totalizer.specs.Cells.{cell_at}

cell-front : (cells : List Literal) (l : Literal) (k : ℕ) → k < length cells → cell_at (cells ++ l ∷ []) k ≡ cell_at cells k
cell-front [] l k h = absurd (omega arith)
cell-front (x ∷ cells) l zero h = refl
cell-front (x ∷ cells) l (suc k) h = cell-front cells l k (omega arith)

pub cell-end : (cells : List Literal) (l : Literal) → cell_at (cells ++ l ∷ []) (length cells) ≡ l
cell-end [] l = refl
cell-end (x ∷ cells) l = cell-end cells l

pub cell-has : (cells : List Literal) (k : ℕ) → k < length cells → has cells (cell_at cells k) ≡ true
cell-has [] k h = absurd (omega arith)
cell-has (x ∷ cells) zero h = has-head x cells
cell-has (x ∷ cells) (suc k) h = has-tail x (cell_at cells k) cells (cell-has cells k (omega arith))

-- what holds of each older cell and of the new one holds of all
pub each-cell : (P : ℕ → Literal → Type 0) (cells : List Literal) (l : Literal) → ((k : ℕ) → k < length cells → P k (cell_at cells k)) → P (length cells) l
    → (k : ℕ) → k < length (cells ++ l ∷ []) → P k (cell_at (cells ++ l ∷ []) k)
each-cell P cells l old new k h = elim (bool-cases (nat_lt k (length cells))) [
  | inl y ↦ (let b : k < length cells = search rules in let Q : Literal → Type 0 = P k in subst Q (sym (cell-front cells l k b)) (old k b))
  | inr y ↦ (let g : length cells ≤ k = search rules in let e = length-append cells (l ∷ []) in let q : k ≡ length cells = omega (arith, g, h, e) in
      let R : ℕ → Type 0 = λ j. P j (cell_at (cells ++ l ∷ []) j) in let S : Literal → Type 0 = P (length cells) in
      subst R (sym q) (subst S (sym (cell-end cells l)) new))
]

pub below-more : (m : ℕ) (cells : List Literal) (l : Literal) → IsBelow m cells → l.var < m → IsBelow m (cells ++ l ∷ [])
below-more m cells l b h k g = elim (has-append_cases cells (l ∷ []) k g) [
  | inl x ↦ b k x
  | inr x ↦ elim (has-cases l k [] x) [ inl e ↦ (let P : ℕ → Type 0 = λ v. v < m in subst P (ap (λ (j : Literal). j.var) (sym e)) h) | inr c ↦ absurd (cc) ]
]

pub le-true : (a b : ℕ) → a ≤ b → nat_le a b ≡ true
le-true a b h = search rules

pub le-false : (a b : ℕ) → b < a → nat_le a b ≡ false
le-false a b h = search rules

pub le-cases : (a b : ℕ) → (a ≤ b) ⊎ (b < a)
le-cases a b = elim (bool-cases (nat_lt b a)) [ inl y ↦ inr (search rules) | inr y ↦ inl (search rules) ]
