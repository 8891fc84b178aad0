-- What a call of the outside does to what is known of it: the vocabulary of the traits' contracts.
use Rattle.std.specs.Prelude.{◌≡◌, ◌≢◌, ℕ, ◌+◌, ◌-◌, ◌^◌, ◌≤◌, min, List, ◌++◌, length, take}

-- the count rose, or is at the last value of a `u64`
abbrev pub Rose : ℕ → ℕ → Type 0
Rose old new = min (old + 1) (2 ^ 64 - 1) ≤ new

-- the count of no other name than this one changed, and none fell
pub record OnlyRises (name : List ℕ) (old new : List ℕ → ℕ) : Type 0 where
  pub same : (other : List ℕ) → other ≢ name → new other ≡ old other
  pub rises : (any : List ℕ) → old any ≤ new any

-- no count fell
abbrev pub NoneFell : (List ℕ → ℕ) → (List ℕ → ℕ) → Type 0
NoneFell old new = (name : List ℕ) → old name ≤ new name

-- the new list is the old one and then a prefix of these
abbrev pub AddsPrefix : {T : Type 0} → List T → List T → List T → Type 0
AddsPrefix old new more = (n : ℕ) × (n ≤ length more) × (new ≡ old ++ take n more)
