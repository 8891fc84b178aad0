-- Variables in an order, and the place of each in it.
use Rattle.std.specs.Prelude.{◌≡◌, ℕ, ◌<◌, List, cond, length, nat_eq, slice_index_or}

-- where a variable is after those of two places were exchanged
abbrev pub exchanged : ℕ → ℕ → ℕ → ℕ
exchanged i j place = cond (nat_eq place i) j (cond (nat_eq place j) i place)

-- no other variable has the place of this one
abbrev pub IsOnlyPlace : List ℕ → ℕ → Type 0
IsOnlyPlace places var =
    (k : ℕ) → k < length places → slice_index_or places k 0 ≡ slice_index_or places var 0 → k ≡ var

-- the number at k is k's place in the other list
abbrev pub IsPlaced : List ℕ → List ℕ → Type 0
IsPlaced places items =
    (k : ℕ) → k < length places → (slice_index_or places k 0 < length places) × (slice_index_or items (slice_index_or places k 0) 0 ≡ k)

-- each variable is at its place, and each place is that of the variable there
pub record IsInverse (places items : List ℕ) : Type 0 where
  pub same : length items ≡ length places
  pub there : IsPlaced places items
  pub back : IsPlaced items places
