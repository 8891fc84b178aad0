-- The cells of a counter over some rows.
use Rattle.std.specs.Prelude.{◌≡◌, ℕ, zero, suc, ◌+◌, ◌<◌, ◌≤◌, Bool, true, false, cond, nat_le, List, ◌∷◌, length, replicate, slice_index_or}
use Rattle.rt_clause.specs.Literal.{Literal, negated}
use Rattle.rt_clause.specs.Lists.{has, Closed, IsBelow}
use Rattle.rt_clause.specs.Models.{lit_true, IsModel}

abbrev pub cell_at : List Literal → ℕ → Literal
cell_at cells k = slice_index_or cells k (record { var = 0; on = false })

-- over no rows the cell of no rows is always true, and each other one never
abbrev pub first_cells : Literal → ℕ → List Literal
first_cells always upto = always ∷ replicate upto (negated always)

-- how many of the first i variables are true
abbrev pub kept_below : ℕ → List Bool → ℕ
kept_below zero bools = 0
kept_below (suc i) bools = cond (slice_index_or bools i false) (kept_below i bools + 1) (kept_below i bools)

-- how many of so many variables from one on are true
abbrev pub kept_from : ℕ → ℕ → List Bool → ℕ
kept_from low zero bools = 0
kept_from low (suc n) bools = cond (slice_index_or bools (low + n) false) (kept_from low n bools + 1) (kept_from low n bools)

-- the k-th cell, from 0, is true exactly where at least k of these variables are
abbrev pub AreCells : List Literal → ℕ → ℕ → List Bool → Type 0
AreCells cells low n bools = (k : ℕ) → k < length cells → lit_true bools (cell_at cells k) ≡ nat_le k (kept_from low n bools)

-- the set has the literal where the Bool is true, and else its negation
abbrev pub IsToldAs : List Literal → Literal → Bool → Type 0
IsToldAs set l on = has set (cond on l (negated l)) ≡ true

-- the same of the set's literals
abbrev pub AreTold : List Literal → ℕ → ℕ → List Bool → List Literal → Type 0
AreTold cells low n bools set = (k : ℕ) → k < length cells → IsToldAs set (cell_at cells k) (nat_le k (kept_from low n bools))

-- in each model a row that is not among these is not kept
abbrev pub IsLeftOut : List Bool → ℕ → List (List Literal) → Type 0
IsLeftOut among row lines = slice_index_or among row false ≡ false → (bools : List Bool) → IsModel lines bools → slice_index_or bools row false ≡ false

-- the Bools of the rows, as the set has them of those among these, and false for each other row
abbrev pub AreRowsOf : List Bool → ℕ → List Literal → List Bool → Type 0
AreRowsOf among rows set bools = (row : ℕ) → row < rows
    → (slice_index_or among row false ≡ true → IsToldAs set (record { var = row; on = true }) (slice_index_or bools row false))
    × (slice_index_or among row false ≡ false → slice_index_or bools row false ≡ false)

-- The cells count so many rows from one on, of which at most `most` are among these. In each model
-- they say how many are kept, and propagation gives them from the rows.
pub record IsRange (among : List Bool) (rows : ℕ) (never : Literal) (low n most : ℕ) (cells : List Literal) (next : ℕ) (lines : List (List Literal)) : Type 0 where
  pub below : IsBelow next cells
  pub beyond : (k : ℕ) → most < k → k < length cells → cell_at cells k ≡ never
  pub few : (bools : List Bool) → IsModel lines bools → kept_from low n bools ≤ most
  pub few_told : (set : List Literal) → Closed lines set → (bools : List Bool) → AreRowsOf among rows set bools → kept_from low n bools ≤ most
  pub means : (bools : List Bool) → IsModel lines bools → AreCells cells low n bools
  pub told : (set : List Literal) → Closed lines set → (bools : List Bool) → AreRowsOf among rows set bools → AreTold cells low n bools set

-- a literal that no model and no closed set makes true
pub record IsNever (never : Literal) (lines : List (List Literal)) : Type 0 where
  pub in_model : (bools : List Bool) → IsModel lines bools → lit_true bools never ≡ false
  pub in_set : (set : List Literal) → Closed lines set → has set (negated never) ≡ true
