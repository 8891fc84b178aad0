-- Choices of rows and their places.
use Rattle.std.specs.Prelude.{ℕ, Bool, false, nat_eq, List, map, filter, length, slice_index_or}
use Rattle.std.specs.List.{list_any, range_with_len}

abbrev pub has_place : List ℕ → ℕ → Bool
has_place places row = list_any (nat_eq row) places

-- the choice of so many rows that keeps these places
abbrev pub keep_of : ℕ → List ℕ → List Bool
keep_of rows places = map (has_place places) (range_with_len 0 rows)

-- the places that a choice keeps, in order
abbrev pub places_of : List Bool → List ℕ
places_of keep = filter (λ row. slice_index_or keep row false) (range_with_len 0 (length keep))
