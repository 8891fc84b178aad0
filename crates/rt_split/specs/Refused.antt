-- Conditions whose truth does not rest on what is in the tables.
use Rattle.std.specs.Prelude.{◌≡◌, false}
use Rattle.rt_schema.specs.Given.{Tables}
use Rattle.rt_algebra.specs.Answer.{is_yes, pred_by}
use Rattle.rt_algebra.specs.Expression.{Env, wrapped}
use Rattle.rt_algebra.specs.declared.query.Pred.{Pred}
use Rattle.rt_split.specs.Split.{simple_by}

-- the truth of the condition is that of a condition without subqueries
abbrev pub IsSimple : Pred → Type 0
IsSimple p = (db : Tables) (env : Env) → pred_by wrapped p db env ≡ simple_by wrapped p env

-- the condition is not true, whatever is in the tables
abbrev pub IsRefused : Pred → Env → Type 0
IsRefused p env = (db : Tables) → is_yes (pred_by wrapped p db env) ≡ false
