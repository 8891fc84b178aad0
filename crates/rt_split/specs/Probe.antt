-- The first test of the rows of a table: an equality of a condition that each of them has to meet.
use Rattle.std.specs.Prelude.{Bool, IsTrue, false, not, List, Option, None, Some, ◌≡◌, ◌∷◌, drop, slice_index_or}
use Rattle.rt_value.specs.declared.value.Value.{Value}
use Rattle.rt_value.specs.declared.value.Value.TheVariants as v
use Rattle.rt_value.specs.declared.value.Op.TheVariants.{Eq}
use Rattle.rt_value.specs.Value.{value_truth}
use Rattle.rt_algebra.specs.Answer.{is_yes}
use Rattle.rt_algebra.specs.Expression.{Env, value_by, wrapped}
use Rattle.rt_algebra.specs.declared.expr.Expr.{Expr}
use Rattle.rt_algebra.specs.declared.query.Pred.{Pred}
use Rattle.rt_split.specs.Refused.{IsRefused}
use Rattle.rt_split.specs.declared.probe.Equality.{Equality}
use Rattle.rt_split.specs.declared.probe.Probe.{Probe}

-- whether a row does not meet the equality, where there is one
abbrev pub fails : Option Equality → List Value → Bool
fails None row = false
fails (Some e) row = not (is_yes (value_truth Eq (slice_index_or row e.at v.Null) e.value))

abbrev pub refuses : Probe → List Value → Bool
refuses probe row = fails probe.equality row

-- with a row in the innermost place that fails the equality the condition is not true, whatever is
-- in the tables
abbrev pub IsMet : Pred → Env → Option Equality → Type 0
IsMet p outer o = (row : List Value) → IsTrue (fails o row) → IsRefused p (row ∷ outer)

abbrev pub IsProbeOf : Pred → Env → Probe → Type 0
IsProbeOf p outer probe = IsMet p outer probe.equality

-- the value of the expression is the same whatever row is in the innermost place
abbrev pub IsSteady : Expr → Type 0
IsSteady e = (row : List Value) (env : Env) → value_by wrapped e env ≡ value_by wrapped e (row ∷ drop 1 env)
