-- Choices of places: their size, and their order.
use Rattle.std.specs.Prelude.{◌≡◌, ℕ, ◌<◌, Bool, true, false, List, count_by, slice_index_or}

-- how many places are kept
abbrev pub size : List Bool → ℕ
size keep = count_by (λ b. b) keep

-- at the first place at which the two differ, this one keeps the place
pub record ComesBefore (keep other : List Bool) : Type 0 where
  pub place : ℕ
  pub same : (v : ℕ) → v < place → slice_index_or keep v false ≡ slice_index_or other v false
  pub keeps : slice_index_or keep place false ≡ true
  pub leaves : slice_index_or other place false ≡ false
