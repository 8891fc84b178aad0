-- Places of rows by their keys.
use Rattle.std.specs.Prelude.{ℕ, List, []}
use Rattle.std.specs.Option.{unwrap_or}
use Rattle.std.specs.Map.{lookup}
use Rattle.std.specs.BTreeMap.{is_at}
use Rattle.rt_value.specs.declared.value.Value.{Value}
use Rattle.rt_value.specs.Row.{row_cmp}

-- keys in their order, each with the places of its rows
abbrev pub Placed : Type 0
Placed = List (List Value × List ℕ)

abbrev pub places_at : Placed → List Value → List ℕ
places_at index key = unwrap_or (lookup (is_at (row_cmp key)) index) []
