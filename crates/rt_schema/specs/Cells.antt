-- The values of a row in columns, and when two rows have the same.
use Rattle.std.specs.Prelude.{ℕ, Bool, true, false, not, ◌&&◌, List, map, slice_index_or}
use Rattle.std.specs.List.{list_any}
use Rattle.rt_value.specs.declared.value.Value.{Value}
use Rattle.rt_value.specs.declared.value.Value.TheVariants as v
use Rattle.rt_value.specs.Row.{row_eq}

abbrev pub is_null : Value → Bool
is_null v.Null = true
is_null (v.Int n) = false
is_null (v.Text t) = false

-- the value of a row in a column
abbrev pub cell : List Value → ℕ → Value
cell row column = slice_index_or row column v.Null

-- the values of a row in several columns
abbrev pub cells : List ℕ → List Value → List Value
cells columns row = map (cell row) columns

-- two rows agree where the first has in the columns `from` what the second has in the columns
-- `to`, with no NULL among these values
abbrev pub agree : List ℕ → List ℕ → List Value → List Value → Bool
agree from to row other = row_eq (cells from row) (cells to other) && not (list_any is_null (cells from row))

-- two rows have the same in several columns, NULL being the same as NULL
abbrev pub same_in : List ℕ → List Value → List Value → Bool
same_in columns row other = row_eq (cells columns row) (cells columns other)
