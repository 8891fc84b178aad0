-- The given instance: for each table the kinds of its columns and its rows.
use Rattle.std.specs.Prelude.{◌≡◌, ℕ, zero, suc, ◌+◌, ◌^◌, Bool, true, false, ◌&&◌, List, [], ◌∷◌, length, ℤ, pos, neg_ℤ, int_le, int_lt, nat_le, slice_index_or}
use Rattle.std.specs.List.{list_all}
use Rattle.rt_value.specs.declared.value.Value.{Value}
use Rattle.rt_value.specs.declared.value.Value.TheVariants as v
use Rattle.rt_schema.specs.declared.table.ColKind.{ColKind}
use Rattle.rt_schema.specs.declared.table.ColKind.TheVariants.{Whole, Text}
use Rattle.rt_schema.specs.declared.table.Table.{Table}
use Rattle.rt_schema.specs.Schema.{schema_kinds}

-- the rows of one table, in file order
abbrev pub Rows : Type 0
Rows = List (List Value)

-- the rows of each table, in schema order
abbrev pub Tables : Type 0
Tables = List Rows

-- the rows of a table, by its number
abbrev pub rows_at : Tables → ℕ → Rows
rows_at tables table = slice_index_or tables table []

pub record Instance : Type 0 where
  pub kinds : List (List ColKind)
  pub tables : Tables

-- a whole number of 64 bits with a sign
abbrev pub in_64_bits : ℤ → Bool
in_64_bits n = int_le (neg_ℤ (pos (2 ^ 63))) n && int_lt n (pos (2 ^ 63))

-- NULL suits each kind
abbrev pub value_suits : ColKind → Value → Bool
value_suits k v.Null = true
value_suits Whole (v.Int n) = in_64_bits n
value_suits Whole (v.Text t) = false
value_suits Text (v.Int n) = false
value_suits Text (v.Text t) = true

-- a value for each column, of the column's kind
abbrev pub row_suits : List ColKind → List Value → Bool
row_suits [] [] = true
row_suits [] (x ∷ row) = false
row_suits (k ∷ kinds) [] = false
row_suits (k ∷ kinds) (x ∷ row) = value_suits k x && row_suits kinds row

abbrev pub rows_suit : List ColKind → Rows → Bool
rows_suit kinds rows = list_all (row_suits kinds) rows

abbrev pub tables_suit : List (List ColKind) → Tables → Bool
tables_suit [] [] = true
tables_suit [] (rows ∷ tables) = false
tables_suit (ks ∷ kinds) [] = false
tables_suit (ks ∷ kinds) (rows ∷ tables) = rows_suit ks rows && tables_suit kinds tables

-- the number of rows of all tables
abbrev pub places : Tables → ℕ
places [] = 0
places (rows ∷ tables) = length rows + places tables

-- the place of the first row of a table: places run table by table
abbrev pub base_of : ℕ → Tables → ℕ
base_of n [] = 0
base_of zero (rows ∷ tables) = 0
base_of (suc n) (rows ∷ tables) = length rows + base_of n tables

-- the most rows that all tables together may have
abbrev pub row_limit : ℕ
row_limit = 2000

-- each row suits its table, and there are not too many
abbrev pub is_instance : Instance → Bool
is_instance given = tables_suit given.kinds given.tables && nat_le (places given.tables) row_limit

-- the instance has the tables of the schema, with the same kinds of columns
abbrev pub IsOf : List Table → Instance → Type 0
IsOf schema given = given.kinds ≡ schema_kinds schema
