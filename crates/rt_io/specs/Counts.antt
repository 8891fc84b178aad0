-- The counts of the names that were begun.
use Rattle.std.specs.Prelude.{ℕ, List, [], if◌then◌else◌, map, sum_by, slice_get}
use Rattle.std.specs.Option.{option_map_or}
use Rattle.std.specs.Str.{bytes_eq}
use Rattle.rt_io.specs.declared.counts.Entry.{Entry}

-- what this entry counts for a name
abbrev pub counted : List ℕ → Entry → ℕ
counted name e = if bytes_eq e.name name then e.count else 0

-- the count of a name: the sum over its entries
abbrev pub count_in : List Entry → List ℕ → ℕ
count_in entries name = sum_by (counted name) entries

-- the name of the entry at this place
abbrev pub name_at : List Entry → ℕ → List ℕ
name_at entries at = option_map_or (λ e. e.name) (slice_get entries at) []

-- the names of the entries, in order
abbrev pub names_in : List Entry → List (List ℕ)
names_in entries = map (λ e. e.name) entries
