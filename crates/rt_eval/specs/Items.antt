-- The items' values for rows.
use Rattle.std.specs.Prelude.{List, ◌∷◌, map}
use Rattle.std.specs.List.{filter}
use Rattle.rt_schema.specs.Given.{Rows, Tables}
use Rattle.rt_algebra.specs.Answer.{is_yes, pred_by}
use Rattle.rt_algebra.specs.Expression.{Env, wrapped, row_by}
use Rattle.rt_algebra.specs.declared.expr.Expr.{Expr}
use Rattle.rt_algebra.specs.declared.query.Pred.{Pred}

-- for each of the rows on which the condition is true, as the innermost in scope
abbrev pub items_where : Pred → List Expr → Tables → Env → Rows → Rows
items_where condition items db env rows = map (λ r. row_by wrapped items (r ∷ env)) (filter (λ r. is_yes (pred_by wrapped condition db (r ∷ env))) rows)
