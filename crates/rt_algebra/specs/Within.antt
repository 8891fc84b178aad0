-- Values, rows and tables that stay within the bounds of columns.
use Rattle.std.specs.Prelude.{ℕ, ◌≤◌, List, [], ◌∷◌, unsigned_abs}
use Rattle.rt_value.specs.declared.value.Value.{Value}
use Rattle.rt_value.specs.declared.value.Value.TheVariants as v
use Rattle.rt_schema.specs.Given.{Rows, Tables}
use Rattle.rt_algebra.specs.Expression.{Env}
use Rattle.rt_algebra.specs.Columns.{Columns, Scopes}

-- NULL, a text, or a whole number whose size is at most the bound
abbrev pub Within : Value → ℕ → Type 0
Within v.Null bound = Unit {0}
Within (v.Text t) bound = Unit {0}
Within (v.Int n) bound = unsigned_abs n ≤ bound

-- as many values as columns, each within its column's bound
abbrev pub RowWithin : List Value → Columns → Type 0
RowWithin [] [] = Unit {0}
RowWithin [] (c ∷ cs) = ⊥
RowWithin (x ∷ row) [] = ⊥
RowWithin (x ∷ row) (c ∷ cs) = Within x c.bound × RowWithin row cs

abbrev pub RowsWithin : Rows → Columns → Type 0
RowsWithin [] cs = Unit {0}
RowsWithin (row ∷ rows) cs = RowWithin row cs × RowsWithin rows cs

abbrev pub TablesWithin : Tables → List Columns → Type 0
TablesWithin [] [] = Unit {0}
TablesWithin [] (cs ∷ tables) = ⊥
TablesWithin (rows ∷ db) [] = ⊥
TablesWithin (rows ∷ db) (cs ∷ tables) = RowsWithin rows cs × TablesWithin db tables

-- the rows in scope
abbrev pub EnvWithin : Env → Scopes → Type 0
EnvWithin [] [] = Unit {0}
EnvWithin [] (cs ∷ scopes) = ⊥
EnvWithin (row ∷ env) [] = ⊥
EnvWithin (row ∷ env) (cs ∷ scopes) = RowWithin row cs × EnvWithin env scopes
