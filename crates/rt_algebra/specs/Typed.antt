-- When a query with the kinds, bounds and names of its columns is one of a schema.
use Rattle.std.specs.Prelude.{◌≡◌, ℕ, Bool, true, false, ◌&&◌, IsTrue, List, [], ◌∷◌, length, Option, None, Some, nat_eq}
use Rattle.rt_schema.specs.declared.table.ColKind.{ColKind}
use Rattle.rt_schema.specs.declared.table.Table.{Table}
use Rattle.rt_schema.specs.Schema.{schema_kinds, kinds_match}
use Rattle.rt_algebra.specs.Columns.{Columns, table_columns, query_columns}
use Rattle.rt_algebra.specs.declared.typed.Typed.{Typed}

-- the kinds and bounds of columns; each kind fits a column without one
abbrev pub are_columns : List ColKind → List ℕ → Columns → Bool
are_columns [] [] [] = true
are_columns (k ∷ kinds) (b ∷ bounds) (c ∷ cs) = kinds_match c.kind (Some k) && nat_eq b c.bound && are_columns kinds bounds cs
are_columns _ _ _ = false

abbrev pub has_columns : List ColKind → List ℕ → Option Columns → Bool
has_columns kinds bounds None = false
has_columns kinds bounds (Some cs) = are_columns kinds bounds cs

-- typed over tables whose columns have these kinds, with one entry a column
pub record IsTyped (tables : List (List ColKind)) (typed : Typed) : Type 0 where
  pub columns : IsTrue (has_columns typed.kinds typed.bounds (query_columns typed.query (table_columns tables) []))
  pub names : length typed.names ≡ length typed.kinds

-- typed over the tables of the schema
abbrev pub IsTypedOf : List Table → Typed → Type 0
IsTypedOf schema typed = IsTyped (schema_kinds schema) typed
