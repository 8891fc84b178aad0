-- Which variables are in a heap.
use Rattle.std.specs.Prelude.{◌≡◌, ℕ, Bool, false, List, length, map, nat_lt, replicate}

-- for each variable whether its place is below the count
abbrev pub members : ℕ → List ℕ → List Bool
members count places = map (λ place. nat_lt place count) places

-- no variable is in
abbrev pub IsEmpty : List Bool → Type 0
IsEmpty held = held ≡ replicate (length held) false
