-- How much work the evaluation of a query is counted as: cells made and tests made, over all rows
-- that may come out. All numbers stop at 2^127 - 1.
use Rattle.std.specs.Prelude.{ℕ, ◌+◌, ◌*◌, List, [], ◌∷◌, Option, None, Some, length, map, slice_index_or, unwrap_or}
use Rattle.rt_schema.specs.Capped.{capped}
use Rattle.rt_schema.specs.Given.{Instance, rows_at}
use Rattle.rt_algebra.specs.declared.cost.Cost.{Cost}
use Rattle.rt_algebra.specs.declared.expr.Expr.{Expr}
use Rattle.rt_algebra.specs.declared.expr.Term.{Term}
use Rattle.rt_algebra.specs.declared.expr.Expr.TheOpen.{Expr-F, Term-F, Col, Int, Text, Null, Sum, Mul}
use Rattle.rt_algebra.specs.declared.expr.Expr.TheFolds.{fold-Expr, fold-Term}
use Rattle.rt_algebra.specs.declared.query.Pred.{Pred}
use Rattle.rt_algebra.specs.declared.query.Query.{Query}
use Rattle.rt_algebra.specs.declared.query.Pred.TheOpen.{Pred-F, Query-F, Cmp, IsNull, OneOf, And, Or, Not, Exists, Member, Table, Select, Project, Product, Union, Except, Intersect}
use Rattle.rt_algebra.specs.declared.query.Pred.TheFolds.{fold-Pred, fold-Query}

-- a number and the members of a list, summed
abbrev pub sum_from : ℕ → List ℕ → ℕ
sum_from n [] = n
sum_from n (m ∷ ms) = sum_from (capped (n + m)) ms

-- the size of an expression: one for each of its parts
abbrev pub expr_size_step : Expr-F ℕ ℕ → ℕ
expr_size_step (Col up at) = 1
expr_size_step (Int n) = 1
expr_size_step (Text t) = 1
expr_size_step Null = 1
expr_size_step (Sum ts) = sum_from 1 ts
expr_size_step (Mul es) = sum_from 1 es

abbrev pub term_size_step : Term-F ℕ ℕ → ℕ
term_size_step t = t.of

abbrev pub expr_size : Expr → ℕ
expr_size = fold-Expr ℕ ℕ expr_size_step term_size_step

abbrev pub term_size : Term → ℕ
term_size = fold-Term ℕ ℕ expr_size_step term_size_step

-- a condition's work for one row
abbrev pub pred_work_step : Pred-F ℕ Cost → ℕ
pred_work_step (Cmp op a b) = capped (expr_size a + expr_size b)
pred_work_step (IsNull e) = expr_size e
pred_work_step (OneOf e es) = sum_from (expr_size e) (map expr_size es)
pred_work_step (And ps) = sum_from 1 ps
pred_work_step (Or ps) = sum_from 1 ps
pred_work_step (Not p) = capped (1 + p)
pred_work_step (Exists q) = capped (1 + q.work)
pred_work_step (Member e q) = capped (capped (expr_size e + q.work) + q.reach)

-- each row of a query, tested or computed anew
abbrev pub each_row : Cost → ℕ → ℕ
each_row q n = capped (q.work + capped (q.reach * n))

-- the members of a product so far, and one more: all concatenations are made
abbrev pub joined : Cost → Cost → Cost
joined q r = record {
  reach = capped (q.reach * r.reach);
  width = capped (q.width + r.width);
  work = capped (capped (q.work + r.work) + capped (capped (q.reach * r.reach) * capped (q.width + r.width)));
}

abbrev pub after : Option Cost → Cost → Cost
after None q = q
after (Some front) q = joined front q

abbrev pub product_from : Option Cost → List Cost → Option Cost
product_from front [] = front
product_from front (q ∷ qs) = product_from (Some (after front q)) qs

-- a set operator goes over all rows of both
abbrev pub set_work : Cost → Cost → ℕ
set_work q r = capped (capped (q.work + r.work) + capped (capped (q.reach + r.reach) * q.width))

-- the rows of a table, cell by cell
abbrev pub table_cost : ℕ → ℕ → Cost
table_cost rows width = record { reach = rows; width = width; work = capped (rows * width) }

abbrev pub query_cost_step : Instance → Query-F ℕ Cost → Cost
query_cost_step given (Table t) = table_cost (length (rows_at given.tables t)) (length (slice_index_or given.kinds t []))
query_cost_step given (Select a p) = record { reach = a.reach; width = a.width; work = each_row a p }
query_cost_step given (Project a es) = record { reach = a.reach; width = length es; work = each_row a (sum_from 0 (map expr_size es)) }
query_cost_step given (Product qs) = unwrap_or (product_from None qs) (table_cost 1 0)
query_cost_step given (Union a b) = record { reach = capped (a.reach + b.reach); width = a.width; work = set_work a b }
query_cost_step given (Except a b) = record { reach = a.reach; width = a.width; work = set_work a b }
query_cost_step given (Intersect a b) = record { reach = a.reach; width = a.width; work = set_work a b }

abbrev pub pred_work : Instance → Pred → ℕ
pred_work given = fold-Pred ℕ Cost pred_work_step (query_cost_step given)

abbrev pub query_cost : Instance → Query → Cost
query_cost given = fold-Query ℕ Cost pred_work_step (query_cost_step given)

abbrev pub work : Query → Instance → ℕ
work query given = (query_cost given query).work
