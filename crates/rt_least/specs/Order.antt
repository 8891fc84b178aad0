-- The rows that a choice keeps from a place on.
use Rattle.std.specs.Prelude.{◌≡◌, ℕ, zero, suc, ◌<◌, ◌≤◌, nat_le, Bool, true, false, ◌&&◌, ◌||◌, List, length, slice_index_or}

-- no row from one place to before another is kept
abbrev pub IsBare : ℕ → ℕ → List Bool → Type 0
IsBare p q keep = (v : ℕ) → p ≤ v → v < q → slice_index_or keep v false ≡ false

-- whether a row from one place to before another is kept
abbrev pub keeps_some : ℕ → ℕ → List Bool → Bool
keeps_some place zero keep = false
keeps_some place (suc end) keep = keeps_some place end keep || (nat_le place end && slice_index_or keep end false)

-- the first row from a place on that a choice keeps, or the number of rows
pub record IsNext (keep : List Bool) (place row : ℕ) : Type 0 where
  pub from : place ≤ row
  pub within : row ≤ length keep
  pub bare : IsBare place row keep
  pub kept : row < length keep → slice_index_or keep row false ≡ true
