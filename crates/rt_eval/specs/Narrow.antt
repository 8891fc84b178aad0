-- Rows from which a condition chooses the same as from a product.
use Rattle.std.specs.Prelude.{◌≡◌, List, [], ◌∷◌}
use Rattle.std.specs.List.{filter}
use Rattle.rt_schema.specs.Given.{Rows, Tables}
use Rattle.rt_algebra.specs.Answer.{is_yes, pred_by}
use Rattle.rt_algebra.specs.Expression.{Env, wrapped}
use Rattle.rt_split.specs.Join.{product_rows}
use Rattle.rt_algebra.specs.declared.query.Pred.{Pred}

-- the rows on which the condition is true
abbrev pub rows_where : Pred → Tables → Env → Rows → Rows
rows_where p db env rows = filter (λ r. is_yes (pred_by wrapped p db (r ∷ env))) rows

abbrev pub AreEnough : Pred → List Rows → Env → Rows → Type 0
AreEnough p members env rows = (db : Tables) → rows_where p db env rows ≡ rows_where p db env (product_rows ([] ∷ []) members)

-- the condition is true on each of them
abbrev pub AreChosen : Pred → List Rows → Env → Rows → Type 0
AreChosen p members env rows = (db : Tables) → rows ≡ rows_where p db env (product_rows ([] ∷ []) members)
