-- Rows before a member of a product, and the places of the member's rows that follow each of them.
use Rattle.std.specs.Prelude.{ℕ, List, [], ◌∷◌, ◌++◌, slice_get}
use Rattle.std.specs.List.{filter_map}
use Rattle.rt_schema.specs.Given.{Rows}
use Rattle.rt_algebra.specs.Answer.{join_each}
use Rattle.rt_split.specs.Split.{first, later}

-- the first of the rows joined with each of those that follow it, and all of the rows joined so
abbrev pub first_joined : Rows → Rows → List (List ℕ) → Rows
first_joined [] rows places = []
first_joined (before ∷ befores) rows places = join_each before (filter_map (slice_get rows) (first places))

abbrev pub all_joined : Rows → Rows → List (List ℕ) → Rows
all_joined [] rows places = []
all_joined (before ∷ befores) rows places = first_joined (before ∷ befores) rows places ++ all_joined befores rows (later places)
