-- The laws of the operators: what they become is typed, and answers just their rows.
use Rattle.std.specs.Prelude.{◌≡◌, ℕ, ◌+◌, true, List, [], ◌∷◌, map, length, IfOk, Some, slice_get}
use Rattle.rt_algebra.specs.Answer.{answer}
use Rattle.rt_algebra.specs.Columns as algebra
use Rattle.rt_algebra.specs.Expression.{Env}
use Rattle.rt_ra.specs.OperatorAnswers.{Named}
use Rattle.rt_ra.specs.OperatorAnswers as answers
use Rattle.rt_relation.specs.Columns.{Text, names}
use Rattle.rt_ra.specs.Numbers.{tests_fit}
use Rattle.rt_relation.specs.Operators.{Answer}
use Rattle.rt_relation.specs.Operators as operators
use Rattle.rt_ra.specs.Unary.{table_columns}
use Rattle.rt_ra.specs.Unary as unary
use Rattle.rt_relation.specs.declared.column.Column.{Column}
use Rattle.rt_relation.specs.declared.relation.Relation.{Relation}
use Rattle.rt_ra_tree.specs.declared.tree.RaOp.{RaOp}
use Rattle.rt_ra_tree.specs.declared.tree.RaTests.{RaTests}
use Rattle.rt_schema.specs.Given.{Rows, Tables, rows_at}
use Rattle.rt_schema.specs.declared.table.Table.{Table}

-- ---- rows

-- each row has so many cells
abbrev pub Wide : ℕ → Rows → Type 0
Wide n [] = Unit {0}
Wide n (r ∷ rs) = (length r ≡ n) × Wide n rs

-- the query answers these rows under all rows in scope, and each has as many cells as there are columns
pub record Has (db : Tables) (r : Relation) (rows : Rows) : Type 0 where
  pub same : (env : Env) → answer r.query db env ≡ rows
  pub wide : Wide (length r.columns) rows

-- the columns have the names, and the query answers the rows
pub record Means (db : Tables) (m : Named) (r : Relation) : Type 0 where
  pub named_so : names r.columns ≡ m.names
  pub has : Has db r m.rows

-- the rows of each table have as many cells as it has columns; the first has the number `at`
abbrev pub Fit : Tables → ℕ → List Table → Type 0
Fit db at [] = Unit {0}
Fit db at (t ∷ ts) = Wide (length t.columns) (rows_at db at) × Fit db (at + 1) ts

-- where the operand answers rows, its query under the operator answers the operator's rows
abbrev pub KeepsOne : (Named → Named) → Relation → Answer → Type 0
KeepsOne f t a = (db : Tables) (m : Named) → Means db m t → IfOk a (Means db (f m))

abbrev pub KeepsTwo : RaOp → Relation → Relation → Type 0
KeepsTwo o t u = (db : Tables) (m n : Named) → Means db m t → Means db n u → IfOk (operators.two o t u) (Means db (answers.two o m n))

abbrev pub TableKeeps : Text → List Table → Type 0
TableKeeps n ts = (db : Tables) → Fit db 0 ts → IfOk (unary.table_named n 0 ts) (Means db (answers.table_rows n 0 ts db))

-- ---- kinds and bounds

-- a column as the algebra sees it
abbrev pub column_as : Column → algebra.Column
column_as c = algebra.column c.kind c.bound

abbrev pub columns_as : List Column → algebra.Columns
columns_as cs = map column_as cs

-- over tables of these columns the query has just its columns, whatever rows are in scope
abbrev pub HasColumns : List algebra.Columns → Relation → Type 0
HasColumns tables r = (scopes : algebra.Scopes) → algebra.query_columns r.query tables scopes ≡ Some (columns_as r.columns)

-- the columns of each table, the first having the number `at`
abbrev pub AreTables : List algebra.Columns → ℕ → List Table → Type 0
AreTables tables at [] = Unit {0}
AreTables tables at (t ∷ ts) = (slice_get tables at ≡ Some (columns_as (table_columns t.columns))) × AreTables tables (at + 1) ts

-- where the operand is typed, what it becomes under the operator is
abbrev pub StaysTyped : Relation → Answer → Type 0
StaysTyped t a = (tables : List algebra.Columns) → HasColumns tables t → IfOk a (HasColumns tables)

abbrev pub TwoTyped : RaOp → Relation → Relation → Type 0
TwoTyped o t u = (tables : List algebra.Columns) → HasColumns tables t → HasColumns tables u → IfOk (operators.two o t u) (HasColumns tables)

-- the numbers of the tests may not be too large
abbrev pub SelectTyped : Relation → RaTests → Type 0
SelectTyped t ts = tests_fit (ts.head ∷ ts.tail) ≡ true → StaysTyped t (unary.select t ts)

abbrev pub TableTyped : Text → List Table → Type 0
TableTyped n ts = (tables : List algebra.Columns) → AreTables tables 0 ts → IfOk (unary.table_named n 0 ts) (HasColumns tables)
