-- The clauses that add up two counts (a totalizer; Bailleux and Boufkhad, "Efficient CNF encoding of
-- Boolean cardinality constraints", 2003).
use Rattle.std.specs.Prelude.{◌≡◌, ℕ, suc, ◌+◌, ◌<◌, ◌≤◌, Bool, not, nat_le, List, [], ◌∷◌, filter, length, ◌⊎◌}
use Rattle.rt_clause.specs.Literal.{Literal, negated, lit_eq}
use Rattle.rt_clause.specs.Lists.{line_at, Closed}
use Rattle.rt_clause.specs.Models.{lit_true, IsModel}
use Rattle.rt_clause.specs.Gates.{Extends}
use Rattle.rt_totalizer.specs.Cells.{cell_at, kept_from, AreRowsOf, IsToldAs}

-- a clause without the literal that is never true
abbrev pub without : Literal → List Literal → List Literal
without never clause = filter (λ l. not (lit_eq l never)) clause

-- at least i of the rows on the left and j of those on the right make the output true
abbrev pub up : Literal → List Literal → List Literal → Literal → ℕ → ℕ → List Literal
up never left right out i j = without never (negated (cell_at left i) ∷ negated (cell_at right j) ∷ out ∷ [])

-- at most i of the rows on the left and j of those on the right make it false
abbrev pub down : Literal → List Literal → List Literal → Literal → ℕ → ℕ → List Literal
down never left right out i j = without never (cell_at left (suc i) ∷ cell_at right (suc j) ∷ negated out ∷ [])

abbrev pub HasLine : List (List Literal) → List Literal → Type 0
HasLine lines clause = (i : ℕ) × (i < length lines) × (line_at lines i ≡ clause)

-- The clauses of the output that says that at least k rows are kept on both sides together, where
-- at most so many are among these on the left, and on the right.
pub record IsMerging (never : Literal) (left right : List Literal) (most_left most_right k : ℕ) (out : Literal) (clauses : List (List Literal)) : Type 0 where
  pub only : (at : ℕ) → at < length clauses → ((i j : ℕ) × (i + j ≡ k) × (i ≤ most_left) × (j ≤ most_right) × (line_at clauses at ≡ up never left right out i j))
      ⊎ ((i j : ℕ) × (suc (i + j) ≡ k) × (i ≤ most_left) × (j ≤ most_right) × (line_at clauses at ≡ down never left right out i j))
  pub ups : (i j : ℕ) → i + j ≡ k → i ≤ most_left → j ≤ most_right → HasLine clauses (up never left right out i j)
  pub downs : (i j : ℕ) → suc (i + j) ≡ k → i ≤ most_left → j ≤ most_right → HasLine clauses (down never left right out i j)

-- a new literal that says whether at least k of so many rows from one on are kept
pub record IsOutput (among : List Bool) (rows low n k : ℕ) (out : Literal) (next : ℕ) (lines new : List (List Literal)) : Type 0 where
  pub over : Extends lines next new (next + 1)
  pub means : (bools : List Bool) → IsModel new bools → lit_true bools out ≡ nat_le k (kept_from low n bools)
  pub told : (set : List Literal) → Closed new set → (bools : List Bool) → AreRowsOf among rows set bools → IsToldAs set out (nat_le k (kept_from low n bools))
