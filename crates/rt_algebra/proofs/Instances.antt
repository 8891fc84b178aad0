-- The rows of an instance, and those that a choice keeps, are within the columns of its tables.
use Rattle.std.proofs.Common.{◌≤◌, ◌^◌, Bool, true, false, IsTrue, List, [], ◌∷◌, length, drop, map, ℤ, pos, negsuc, neg_ℤ, arith}
use Rattle.std.specs.Prelude.{unsigned_abs, int_le, nat_le}
use Rattle.std.proofs.lemmas.Bool.Decides.{nat_tests}
use Rattle.rt_value.specs.declared.value.Value.{Value}
use Rattle.rt_value.specs.declared.value.Value.TheVariants as v
use Rattle.rt_schema.specs.declared.table.ColKind.{ColKind}
use Rattle.rt_schema.specs.declared.table.ColKind.TheVariants.{Whole, Text}
use Rattle.rt_schema.specs.Given.{Instance, Rows, Tables, in_64_bits, value_suits, row_suits, rows_suit, tables_suit, is_instance, places}
use Rattle.rt_schema.specs.Kept.{kept, kept_rows}
use Rattle.rt_algebra.specs.Columns.{Columns, table_column, table_columns}
use Rattle.rt_algebra.specs.Within.{Within, RowWithin, RowsWithin, TablesWithin}
use Rattle.rt_algebra.proofs.Rows.{and-left, and-right}

in_64_bits-abs : (n : ℤ) → IsTrue (in_64_bits n) → unsigned_abs n ≤ 2 ^ 63
in_64_bits-abs (pos m) h = let above = and-right (int_le (neg_ℤ (pos (2 ^ 63))) (pos m)) _ h in grind (arith, nat_tests, above)
in_64_bits-abs (negsuc m) h = let below = and-left (int_le (neg_ℤ (pos (2 ^ 63))) (negsuc m)) _ h in grind (arith, nat_tests, below)

value_within : (k : ColKind) (x : Value) → IsTrue (value_suits k x) → Within x (table_column k).bound
value_within Whole v.Null h = tt
value_within Whole (v.Int n) h = in_64_bits-abs n h
value_within Whole (v.Text t) h = tt
value_within Text v.Null h = tt
value_within Text (v.Int n) h = absurd (cc)
value_within Text (v.Text t) h = tt

row_within : (kinds : List ColKind) (row : List Value) → IsTrue (row_suits kinds row) → RowWithin row (map table_column kinds)
row_within [] [] h = tt
row_within [] (x ∷ row) h = absurd (cc)
row_within (k ∷ kinds) [] h = absurd (cc)
row_within (k ∷ kinds) (x ∷ row) h = (value_within k x (and-left _ (row_suits kinds row) h), row_within kinds row (and-right (value_suits k x) _ h))

rows_within : (kinds : List ColKind) (rows : Rows) → IsTrue (rows_suit kinds rows) → RowsWithin rows (map table_column kinds)
rows_within kinds [] h = tt
rows_within kinds (row ∷ rows) h = (row_within kinds row (and-left _ (rows_suit kinds rows) h), rows_within kinds rows (and-right (row_suits kinds row) _ h))

tables_within : (kinds : List (List ColKind)) (tables : Tables) → IsTrue (tables_suit kinds tables) → TablesWithin tables (table_columns kinds)
tables_within [] [] h = tt
tables_within [] (rows ∷ tables) h = absurd (cc)
tables_within (ks ∷ kinds) [] h = absurd (cc)
tables_within (ks ∷ kinds) (rows ∷ tables) h =
    (rows_within ks rows (and-left _ (tables_suit kinds tables) h), tables_within kinds tables (and-right (rows_suit ks rows) _ h))

kept_rows-within : (cs : Columns) (rows : Rows) (keep : List Bool) → RowsWithin rows cs → RowsWithin (kept_rows rows keep) cs
kept_rows-within cs [] keep h = tt
kept_rows-within cs (row ∷ rows) [] h = tt
kept_rows-within cs (row ∷ rows) (true ∷ keep) h = (h.0, kept_rows-within cs rows keep h.1)
kept_rows-within cs (row ∷ rows) (false ∷ keep) h = kept_rows-within cs rows keep h.1

kept-within : (tables : List Columns) (db : Tables) (keep : List Bool) → TablesWithin db tables → TablesWithin (kept db keep) tables
kept-within [] [] keep h = tt
kept-within (cs ∷ tables) [] keep h = h
kept-within [] (rows ∷ db) keep h = h
kept-within (cs ∷ tables) (rows ∷ db) keep h = (kept_rows-within cs rows keep h.0, kept-within tables db (drop (length rows) keep) h.1)

pub kept-instance : (given : Instance) (keep : List Bool) → IsTrue (is_instance given) → TablesWithin (kept given.tables keep) (table_columns given.kinds)
kept-instance given keep h = kept-within (table_columns given.kinds) given.tables keep
    (tables_within given.kinds given.tables (and-left _ (nat_le (places given.tables) 2000) h))
