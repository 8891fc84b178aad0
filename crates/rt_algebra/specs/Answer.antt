-- What a query answers on the rows of the tables (ISO/IEC 9075-2, query expression, predicates
-- and null; set semantics).
use Rattle.std.specs.Prelude.{ℤ, Bool, true, false, not, ◌&&◌, List, [], ◌∷◌, ◌++◌, map, slice_index_or}
use Rattle.std.specs.List.{filter, list_all, list_any}
use Rattle.rt_value.specs.declared.value.Value.{Value}
use Rattle.rt_value.specs.declared.value.Value.TheVariants as v
use Rattle.rt_value.specs.declared.value.Op.TheVariants.{Eq}
use Rattle.rt_value.specs.declared.truth.Truth.{Truth}
use Rattle.rt_value.specs.declared.truth.Truth.TheVariants.{Yes, No, Unknown}
use Rattle.rt_value.specs.Truth.{truth_not, truth_and, truth_or}
use Rattle.rt_value.specs.Value.{value_truth, null_truth}
use Rattle.rt_value.specs.Row.{row_eq}
use Rattle.rt_schema.specs.Given.{Rows, Tables}
use Rattle.rt_algebra.specs.Expression.{Env, exact, value_by, row_by}
use Rattle.rt_algebra.specs.declared.expr.Expr.{Expr}
use Rattle.rt_algebra.specs.declared.query.Pred.{Pred}
use Rattle.rt_algebra.specs.declared.query.Query.{Query}
use Rattle.rt_algebra.specs.declared.query.Pred.TheOpen.{Pred-F, Query-F, Cmp, IsNull, OneOf, And, Or, Not, Exists, Member, Table, Select, Project, Product, Union, Except, Intersect}
use Rattle.rt_algebra.specs.declared.query.Pred.TheFolds.{fold-Pred, fold-Query}

-- what a condition and a query give on the rows of the tables under the rows in scope
abbrev pub Condition : Type 0
Condition = Tables → Env → Truth

abbrev pub Answer : Type 0
Answer = Tables → Env → Rows

abbrev pub is_yes : Truth → Bool
is_yes Yes = true
is_yes No = false
is_yes Unknown = false

-- whether there is a row
abbrev pub some_truth : Rows → Truth
some_truth [] = No
some_truth (r ∷ rs) = Yes

-- whether the row is one of the rows; NULL is the same as NULL
abbrev pub has_row : Rows → List Value → Bool
has_row rows r = list_any (row_eq r) rows

-- each row of either list is in the other
abbrev pub same_rows : Rows → Rows → Bool
same_rows xs ys = list_all (has_row ys) xs && list_all (has_row xs) ys

-- the row before each of the rows
abbrev pub join_each : List Value → Rows → Rows
join_each r [] = []
join_each r (s ∷ ss) = (r ++ s) ∷ join_each r ss

-- each row of one list before each row of the other
abbrev pub pairs : Rows → Rows → Rows
pairs [] ys = []
pairs (r ∷ rs) ys = join_each r ys ++ pairs rs ys

-- each concatenation of a row of `front` and a row of each member
abbrev pub product_after : Rows → List Answer → Tables → Env → Rows
product_after front [] db env = front
product_after front (q ∷ qs) db env = product_after (pairs front (q db env)) qs db env

abbrev pub all_of : List Condition → Tables → Env → Truth
all_of [] db env = Yes
all_of (p ∷ ps) db env = truth_and (p db env) (all_of ps db env)

abbrev pub any_of : List Condition → Tables → Env → Truth
any_of [] db env = No
any_of (p ∷ ps) db env = truth_or (p db env) (any_of ps db env)

-- the comparison of a value with the first value of a row
abbrev pub cell_truth : Value → List Value → Truth
cell_truth x r = value_truth Eq x (slice_index_or r 0 v.Null)

-- Yes where the value compares Yes with a row, No where it compares No with each, else Unknown
abbrev pub member_truth : Value → Rows → Truth
member_truth x [] = No
member_truth x (r ∷ rs) = truth_or (cell_truth x r) (member_truth x rs)

abbrev pub one_of_truth : (ℤ → ℤ) → Value → List Expr → Env → Truth
one_of_truth fit x [] env = No
one_of_truth fit x (e ∷ es) env = truth_or (value_truth Eq x (value_by fit e env)) (one_of_truth fit x es env)

abbrev pub pred_step : (ℤ → ℤ) → Pred-F Condition Answer → Condition
pred_step fit (Cmp op a b) db env = value_truth op (value_by fit a env) (value_by fit b env)
pred_step fit (IsNull e) db env = null_truth (value_by fit e env)
pred_step fit (OneOf e es) db env = one_of_truth fit (value_by fit e env) es env
pred_step fit (And ps) db env = all_of ps db env
pred_step fit (Or ps) db env = any_of ps db env
pred_step fit (Not p) db env = truth_not (p db env)
pred_step fit (Exists q) db env = some_truth (q db env)
pred_step fit (Member e q) db env = member_truth (value_by fit e env) (q db env)

abbrev pub query_step : (ℤ → ℤ) → Query-F Condition Answer → Answer
query_step fit (Table t) db env = slice_index_or db t []
query_step fit (Select a p) db env = filter (λ r. is_yes (p db (r ∷ env))) (a db env)
query_step fit (Project a es) db env = map (λ r. row_by fit es (r ∷ env)) (a db env)
query_step fit (Product qs) db env = product_after ([] ∷ []) qs db env
query_step fit (Union a b) db env = a db env ++ b db env
query_step fit (Except a b) db env = filter (λ r. not (has_row (b db env) r)) (a db env)
query_step fit (Intersect a b) db env = filter (has_row (b db env)) (a db env)

abbrev pub pred_by : (ℤ → ℤ) → Pred → Condition
pred_by fit = fold-Pred Condition Answer (pred_step fit) (query_step fit)

abbrev pub answer_by : (ℤ → ℤ) → Query → Answer
answer_by fit = fold-Query Condition Answer (pred_step fit) (query_step fit)

-- the truth of a condition, and the answer of a query
abbrev pub pred : Pred → Condition
pred = pred_by exact

abbrev pub answer : Query → Answer
answer = answer_by exact

-- the answer of a query with no row in scope
abbrev pub plain : Query → Tables → Rows
plain query db = answer query db []
