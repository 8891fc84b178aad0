-- The columns of a query: their kinds, and how large their whole numbers can be. A query has
-- columns only where it is typed: its numbers are in range, its kinds match, and no step of its
-- arithmetic can pass 2^127 - 1.
use Rattle.std.specs.Prelude.{ℕ, ◌+◌, ◌*◌, ◌-◌, ◌^◌, max, Bool, true, false, ◌&&◌, List, [], ◌∷◌, ◌++◌, map, Option, None, Some, is_some, unsigned_abs, nat_le, if◌then◌else◌, slice_get}
use Rattle.std.specs.Option.{option_and_then}
use Rattle.rt_schema.specs.declared.table.ColKind.{ColKind}
use Rattle.rt_schema.specs.declared.table.ColKind.TheVariants.{Whole, Text as Texts}
use Rattle.rt_schema.specs.Schema.{kinds_match}
use Rattle.rt_algebra.specs.declared.expr.Expr.{Expr}
use Rattle.rt_algebra.specs.declared.expr.Term.{Term}
use Rattle.rt_algebra.specs.declared.expr.Expr.TheOpen.{Expr-F, Term-F, Col, Int, Text, Null, Sum, Mul}
use Rattle.rt_algebra.specs.declared.expr.Expr.TheFolds.{fold-Expr, fold-Term}
use Rattle.rt_algebra.specs.declared.query.Pred.{Pred}
use Rattle.rt_algebra.specs.declared.query.Query.{Query}
use Rattle.rt_algebra.specs.declared.query.Pred.TheOpen.{Pred-F, Query-F, Cmp, IsNull, OneOf, And, Or, Not, Exists, Member, Table, Select, Project, Product, Union, Except, Intersect}
use Rattle.rt_algebra.specs.declared.query.Pred.TheFolds.{fold-Pred, fold-Query}

-- a column's kind, and the size that its whole numbers do not pass; NULL has no kind
pub record Column : Type 0 where
  pub kind : Option ColKind
  pub bound : ℕ

abbrev pub Columns : Type 0
Columns = List Column

-- the columns of the rows in scope, innermost first
abbrev pub Scopes : Type 0
Scopes = List Columns

abbrev pub column : ColKind → ℕ → Column
column kind bound = record { kind = Some kind; bound = bound }

-- a column of a table: whole numbers have 64 bits with a sign
abbrev pub table_column : ColKind → Column
table_column Whole = column Whole (2 ^ 63)
table_column Texts = column Texts 0

abbrev pub table_columns : List (List ColKind) → List Columns
table_columns kinds = map (map table_column) kinds

-- two typed expressions whose kinds match
abbrev pub comparable : Option Column → Option Column → Bool
comparable None d = false
comparable (Some c) None = false
comparable (Some c) (Some d) = kinds_match c.kind d.kind

-- the bound of a member of arithmetic, which is no text
abbrev pub kind_bound : Option ColKind → ℕ → Option ℕ
kind_bound None bound = Some bound
kind_bound (Some Whole) bound = Some bound
kind_bound (Some Texts) bound = None

abbrev pub member_bound : Option Column → Option ℕ
member_bound None = None
member_bound (Some c) = kind_bound c.kind c.bound

-- the bound of a step of arithmetic is at most 2^127 - 1
abbrev pub step_bound : ℕ → Option ℕ
step_bound n = if nat_le n (2 ^ 127 - 1) then Some n else None

-- from the left: the bound so far, and the members
abbrev pub sum_bound : ℕ → List (Scopes → Option Column) → Scopes → Option ℕ
sum_bound sum [] scopes = Some sum
sum_bound sum (t ∷ ts) scopes =
    option_and_then (λ b. option_and_then (λ n. sum_bound n ts scopes) (step_bound (sum + b))) (member_bound (t scopes))

abbrev pub mul_bound : ℕ → List (Scopes → Option Column) → Scopes → Option ℕ
mul_bound product [] scopes = Some product
mul_bound product (t ∷ ts) scopes =
    option_and_then (λ b. option_and_then (λ n. mul_bound n ts scopes) (step_bound (product * b))) (member_bound (t scopes))

abbrev pub whole_column : Option ℕ → Option Column
whole_column None = None
whole_column (Some bound) = Some (column Whole bound)

abbrev pub column_at : Option Columns → ℕ → Option Column
column_at None at = None
column_at (Some columns) at = slice_get columns at

-- an expression whose members have been given their columns
abbrev pub expr_column_step : Expr-F (Scopes → Option Column) (Scopes → Option Column) → Scopes → Option Column
expr_column_step (Col up at) scopes = column_at (slice_get scopes up) at
expr_column_step (Int n) scopes = Some (column Whole (unsigned_abs n))
expr_column_step (Text t) scopes = Some (column Texts 0)
expr_column_step Null scopes = Some (record { kind = None; bound = 0 })
expr_column_step (Sum ts) scopes = whole_column (sum_bound 0 ts scopes)
expr_column_step (Mul es) scopes = whole_column (mul_bound 1 es scopes)

-- a minus keeps the bound
abbrev pub term_column_step : Term-F (Scopes → Option Column) (Scopes → Option Column) → Scopes → Option Column
term_column_step t scopes = t.of scopes

-- the kind and the bound of an expression, where it is typed
abbrev pub column_of : Expr → Scopes → Option Column
column_of = fold-Expr (Scopes → Option Column) (Scopes → Option Column) expr_column_step term_column_step

abbrev pub term_column : Term → Scopes → Option Column
term_column = fold-Term (Scopes → Option Column) (Scopes → Option Column) expr_column_step term_column_step

-- a column before columns, where all are typed
abbrev pub with_column : Option Column → Option Columns → Option Columns
with_column None cs = None
with_column (Some c) None = None
with_column (Some c) (Some cs) = Some (c ∷ cs)

abbrev pub item_columns : List Expr → Scopes → Option Columns
item_columns [] scopes = Some []
item_columns (e ∷ es) scopes = with_column (column_of e scopes) (item_columns es scopes)

-- each item can be compared with the expression
abbrev pub all_comparable : Option Column → List Expr → Scopes → Bool
all_comparable c [] scopes = true
all_comparable c (e ∷ es) scopes = comparable c (column_of e scopes) && all_comparable c es scopes

-- the kind of two that match
abbrev pub either_kind : Option ColKind → Option ColKind → Option ColKind
either_kind None l = l
either_kind (Some k) l = Some k

-- a column of a set operator: matching kinds, and the greater bound
abbrev pub merged_column : Column → Column → Option Column
merged_column c d =
    if kinds_match c.kind d.kind then Some (record { kind = either_kind c.kind d.kind; bound = max c.bound d.bound }) else None

abbrev pub merged_columns : Columns → Columns → Option Columns
merged_columns [] [] = Some []
merged_columns [] (d ∷ ds) = None
merged_columns (c ∷ cs) [] = None
merged_columns (c ∷ cs) (d ∷ ds) = with_column (merged_column c d) (merged_columns cs ds)

abbrev pub set_columns : Option Columns → Option Columns → Option Columns
set_columns None ds = None
set_columns (Some cs) None = None
set_columns (Some cs) (Some ds) = merged_columns cs ds

-- whether a condition is typed, and the columns of a query where it is typed: by the columns of
-- the tables and of the rows in scope
abbrev pub ConditionTest : Type 0
ConditionTest = List Columns → Scopes → Bool

abbrev pub QueryColumns : Type 0
QueryColumns = List Columns → Scopes → Option Columns

abbrev pub all_typed : List ConditionTest → List Columns → Scopes → Bool
all_typed [] tables scopes = true
all_typed (p ∷ ps) tables scopes = p tables scopes && all_typed ps tables scopes

-- an expression that can be compared with the one column of a query
abbrev pub comparable_member : Option Column → Option Columns → Bool
comparable_member c None = false
comparable_member c (Some []) = false
comparable_member c (Some (d ∷ [])) = comparable c (Some d)
comparable_member c (Some (d ∷ e ∷ ds)) = false

-- the columns of the members so far, then those of the other members
abbrev pub product_columns : Columns → List QueryColumns → List Columns → Scopes → Option Columns
product_columns front [] tables scopes = Some front
product_columns front (q ∷ qs) tables scopes = option_and_then (λ cs. product_columns (front ++ cs) qs tables scopes) (q tables scopes)

abbrev pub pred_typed_step : Pred-F ConditionTest QueryColumns → ConditionTest
pred_typed_step (Cmp op a b) tables scopes = comparable (column_of a scopes) (column_of b scopes)
pred_typed_step (IsNull e) tables scopes = is_some (column_of e scopes)
pred_typed_step (OneOf e es) tables scopes = is_some (column_of e scopes) && all_comparable (column_of e scopes) es scopes
pred_typed_step (And ps) tables scopes = all_typed ps tables scopes
pred_typed_step (Or ps) tables scopes = all_typed ps tables scopes
pred_typed_step (Not p) tables scopes = p tables scopes
pred_typed_step (Exists q) tables scopes = is_some (q tables scopes)
pred_typed_step (Member e q) tables scopes = comparable_member (column_of e scopes) (q tables scopes)

abbrev pub query_columns_step : Query-F ConditionTest QueryColumns → QueryColumns
query_columns_step (Table t) tables scopes = slice_get tables t
query_columns_step (Select a p) tables scopes =
    option_and_then (λ cs. if p tables (cs ∷ scopes) then Some cs else None) (a tables scopes)
query_columns_step (Project a es) tables scopes = option_and_then (λ cs. item_columns es (cs ∷ scopes)) (a tables scopes)
query_columns_step (Product qs) tables scopes = product_columns [] qs tables scopes
query_columns_step (Union a b) tables scopes = set_columns (a tables scopes) (b tables scopes)
query_columns_step (Except a b) tables scopes = set_columns (a tables scopes) (b tables scopes)
query_columns_step (Intersect a b) tables scopes = set_columns (a tables scopes) (b tables scopes)

abbrev pub pred_typed : Pred → ConditionTest
pred_typed = fold-Pred ConditionTest QueryColumns pred_typed_step query_columns_step

abbrev pub query_columns : Query → QueryColumns
query_columns = fold-Query ConditionTest QueryColumns pred_typed_step query_columns_step
