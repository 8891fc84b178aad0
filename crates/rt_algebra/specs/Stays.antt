-- What only the innermost rows in scope can change: with so many of them the rows further outward
-- change no answer.
use Rattle.std.specs.Prelude.{◌≡◌, ℕ, ◌++◌, length}
use Rattle.rt_schema.specs.Given.{Tables}
use Rattle.rt_algebra.specs.Expression.{wrapped, Env, value_by, term_by}
use Rattle.rt_algebra.specs.Answer.{answer_by, pred_by}
use Rattle.rt_algebra.specs.declared.expr.Expr.{Expr}
use Rattle.rt_algebra.specs.declared.expr.Term.{Term}
use Rattle.rt_algebra.specs.declared.query.Pred.{Pred}
use Rattle.rt_algebra.specs.declared.query.Query.{Query}

abbrev pub StaysValue : ℕ → Expr → Type 0
StaysValue depth e = (front env : Env) → length front ≡ depth → value_by wrapped e (front ++ env) ≡ value_by wrapped e front

abbrev pub StaysTerm : ℕ → Term → Type 0
StaysTerm depth t = (front env : Env) → length front ≡ depth → term_by wrapped t (front ++ env) ≡ term_by wrapped t front

abbrev pub StaysPred : ℕ → Pred → Type 0
StaysPred depth p = (db : Tables) (front env : Env) → length front ≡ depth → pred_by wrapped p db (front ++ env) ≡ pred_by wrapped p db front

abbrev pub StaysQuery : ℕ → Query → Type 0
StaysQuery depth q = (db : Tables) (front env : Env) → length front ≡ depth → answer_by wrapped q db (front ++ env) ≡ answer_by wrapped q db front
