-- The solver's own copies of the lines: only the places of literals may differ, and repeated ones.
use Rattle.std.specs.Prelude.{◌≡◌, ◌≢◌, ℕ, ◌<◌, true, List, [], ◌∷◌, length, slice_index_or}
use Rattle.rt_clause.specs.Literal.{Literal}
use Rattle.rt_clause.specs.Lists.{has, line_at}

-- two clauses have the same literals
pub record IsSame (a b : List Literal) : Type 0 where
  pub to : (l : Literal) → has a l ≡ true → has b l ≡ true
  pub from : (l : Literal) → has b l ≡ true → has a l ≡ true

pub record AreSame (lines copies : List (List Literal)) : Type 0 where
  pub each : length lines ≡ length copies
  pub same : (i : ℕ) → i < length lines → IsSame (line_at lines i) (line_at copies i)

-- the first two literals differ
abbrev pub IsSpread : List Literal → Type 0
IsSpread [] = Unit {0}
IsSpread (a ∷ []) = Unit {0}
IsSpread (a ∷ b ∷ ls) = a ≢ b

-- each literal is the first one
abbrev pub AreFirst : List Literal → Type 0
AreFirst [] = Unit {0}
AreFirst (a ∷ ls) = (l : Literal) → has ls l ≡ true → l ≡ a

-- at a place is a literal that is not the first one
abbrev pub HasOther : List Literal → ℕ → Type 0
HasOther [] j = ⊥
HasOther (a ∷ ls) j = (j < length (a ∷ ls)) × (slice_index_or (a ∷ ls) j a ≢ a)
