-- Which expressions the evaluation of a query evaluates, and with which rows in scope.
use Rattle.std.specs.Prelude.{List, [], ◌∷◌, ◌++◌, map, Option, None, Some, Contains, unwrap_or}
use Rattle.rt_value.specs.declared.value.Value.{Value}
use Rattle.rt_schema.specs.Given.{Rows, Tables}
use Rattle.rt_algebra.specs.Expression.{Env, value_of}
use Rattle.rt_algebra.specs.Answer.{answer}
use Rattle.rt_algebra.specs.Columns.{Column, Columns, Scopes, column_of, query_columns}
use Rattle.rt_algebra.specs.Within.{Within}
use Rattle.rt_algebra.specs.declared.expr.Expr.{Expr}
use Rattle.rt_algebra.specs.declared.expr.Term.{Term}
use Rattle.rt_algebra.specs.declared.expr.Expr.TheOpen.{Expr-F, Col, Int, Text, Null, Sum, Mul}
use Rattle.rt_algebra.specs.declared.expr.Expr.TheViews.{out-Expr}
use Rattle.rt_algebra.specs.declared.query.Pred.{Pred}
use Rattle.rt_algebra.specs.declared.query.Query.{Query}
use Rattle.rt_algebra.specs.declared.query.Pred.TheOpen.{Pred-F, Query-F, Cmp, IsNull, OneOf, And, Or, Not, Exists, Member, Table, Select, Project, Product, Union, Except, Intersect}
use Rattle.rt_algebra.specs.declared.query.Pred.TheViews.{out-Pred, out-Query}

-- what is evaluated
pub data Part : Type 0 where
  query : Query → Part
  condition : Pred → Part
  expression : Expr → Part

-- a part, the rows in scope, and their columns
pub record Site : Type 0 where
  pub part : Part
  pub env : Env
  pub scopes : Scopes

abbrev pub site : Part → Env → Scopes → Site
site part env scopes = record { part = part; env = env; scopes = scopes }

abbrev pub expression_sites : List Expr → Env → Scopes → List Site
expression_sites es env scopes = map (λ e. site (expression e) env scopes) es

abbrev pub condition_sites : List Pred → Env → Scopes → List Site
condition_sites ps env scopes = map (λ p. site (condition p) env scopes) ps

abbrev pub query_sites : List Query → Env → Scopes → List Site
query_sites qs env scopes = map (λ q. site (query q) env scopes) qs

-- a condition, and the items of a projection, for each row as the innermost in scope
abbrev pub select_sites : Pred → Rows → Columns → Env → Scopes → List Site
select_sites p [] cs env scopes = []
select_sites p (r ∷ rs) cs env scopes = site (condition p) (r ∷ env) (cs ∷ scopes) ∷ select_sites p rs cs env scopes

abbrev pub project_sites : List Expr → Rows → Columns → Env → Scopes → List Site
project_sites es [] cs env scopes = []
project_sites es (r ∷ rs) cs env scopes = expression_sites es (r ∷ env) (cs ∷ scopes) ++ project_sites es rs cs env scopes

-- the parts that the evaluation of a part evaluates next
abbrev pub expression_parts : Expr-F Expr Term → Env → Scopes → List Site
expression_parts (Col up at) env scopes = []
expression_parts (Int n) env scopes = []
expression_parts (Text t) env scopes = []
expression_parts Null env scopes = []
expression_parts (Sum ts) env scopes = expression_sites (map (λ t. t.of) ts) env scopes
expression_parts (Mul es) env scopes = expression_sites es env scopes

abbrev pub condition_parts : Pred-F Pred Query → Env → Scopes → List Site
condition_parts (Cmp op a b) env scopes = expression_sites (a ∷ b ∷ []) env scopes
condition_parts (IsNull e) env scopes = expression_sites (e ∷ []) env scopes
condition_parts (OneOf e es) env scopes = expression_sites (e ∷ es) env scopes
condition_parts (And ps) env scopes = condition_sites ps env scopes
condition_parts (Or ps) env scopes = condition_sites ps env scopes
condition_parts (Not p) env scopes = condition_sites (p ∷ []) env scopes
condition_parts (Exists q) env scopes = query_sites (q ∷ []) env scopes
condition_parts (Member e q) env scopes = expression_sites (e ∷ []) env scopes ++ query_sites (q ∷ []) env scopes

abbrev pub query_parts : Query-F Pred Query → Tables → List Columns → Env → Scopes → List Site
query_parts (Table t) db tables env scopes = []
query_parts (Select a p) db tables env scopes =
    query_sites (a ∷ []) env scopes ++ select_sites p (answer a db env) (unwrap_or (query_columns a tables scopes) []) env scopes
query_parts (Project a es) db tables env scopes =
    query_sites (a ∷ []) env scopes ++ project_sites es (answer a db env) (unwrap_or (query_columns a tables scopes) []) env scopes
query_parts (Product qs) db tables env scopes = query_sites qs env scopes
query_parts (Union a b) db tables env scopes = query_sites (a ∷ b ∷ []) env scopes
query_parts (Except a b) db tables env scopes = query_sites (a ∷ b ∷ []) env scopes
query_parts (Intersect a b) db tables env scopes = query_sites (a ∷ b ∷ []) env scopes

abbrev pub parts_of : Part → Tables → List Columns → Env → Scopes → List Site
parts_of (query q) db tables env scopes = query_parts (out-Query q) db tables env scopes
parts_of (condition p) db tables env scopes = condition_parts (out-Pred p) env scopes
parts_of (expression e) db tables env scopes = expression_parts (out-Expr e) env scopes

-- the evaluation of the first site evaluates the second
pub data Evaluates (db : Tables) (tables : List Columns) : Site → Site → Type 0 where
  itself : {s : Site} → Evaluates db tables s s
  part_of : {s t u : Site} → Contains (parts_of s.part db tables s.env s.scopes) t → Evaluates db tables t u → Evaluates db tables s u

-- a value is NULL, a text, or a whole number whose size is at most the bound of its expression
abbrev pub IsBounded : Value → Option Column → Type 0
IsBounded x None = ⊥
IsBounded x (Some c) = Within x c.bound

-- each expression that the evaluation of the query evaluates is typed, and its value is bounded
abbrev pub StaysBounded : Query → Tables → List Columns → Type 0
StaysBounded q db tables = (e : Expr) (env : Env) (scopes : Scopes)
    → Evaluates db tables (site (query q) [] []) (site (expression e) env scopes) → IsBounded (value_of e env) (column_of e scopes)
