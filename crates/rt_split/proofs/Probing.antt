-- Equalities of a column of the innermost row, whichever side of them it stands on.
use Rattle.std.proofs.Common.{◌≡◌, ℕ, ◌<◌, Bool, true, false, not, IsTrue, List, [], ◌∷◌, map, drop, length, get_or, Option, Some, refl, sym, subst, ap, ap₂, ◌∙◌, slice_index_or}
use Rattle.std.specs.declared.cmp.Ordering.{Ordering}
use Rattle.std.specs.declared.cmp.Ordering.TheVariants.{Less, Equal, Greater}
use Rattle.std.specs.Ordering.{ordering_reverse}
use Rattle.rt_value.specs.declared.value.Op.TheVariants.{Eq}
use Rattle.rt_value.specs.declared.value.Value.{Value}
use Rattle.rt_value.specs.declared.value.Value.TheVariants.{Null, Int, Text}
use Rattle.rt_value.specs.Value.{value_cmp, value_truth, op_truth}
use Rattle.rt_value.specs.Order.{value_cmp_total}
use Rattle.rt_schema.specs.Given.{Tables}
use Rattle.rt_algebra.specs.Answer.{all_of, is_yes, pred_by}
use Rattle.rt_algebra.specs.Expression.{Env, wrapped, value_by}
use Rattle.rt_algebra.specs.declared.expr.Expr.{Expr}
use Rattle.rt_algebra.specs.declared.query.Pred.{Pred}
use Rattle.rt_split.specs.declared.probe.Equality.{Equality}
use Rattle.rt_split.specs.Probe.{IsMet, IsSteady, fails}
use Rattle.rt_split.specs.Split.{place}
use Rattle.rt_split.proofs.Refusing.{one_untrue}
use Rattle.rt_split.proofs.Splitting.{place_is}

equal_back : (o : Ordering) → is_yes (op_truth Eq o) ≡ is_yes (op_truth Eq (ordering_reverse o))
equal_back Less = refl
equal_back Equal = refl
equal_back Greater = refl

both_ways : (x y : Value) → is_yes (op_truth Eq (value_cmp x y)) ≡ is_yes (op_truth Eq (value_cmp y x))
both_ways x y = ap (λ o. is_yes (op_truth Eq o)) (value_cmp_total.antisymm x y) ∙ sym (equal_back (value_cmp y x))

-- an equality may be read from either side
pub equal_either : (x y : Value) → is_yes (value_truth Eq x y) ≡ is_yes (value_truth Eq y x)
equal_either Null Null = refl
equal_either Null (Int y) = refl
equal_either Null (Text t) = refl
equal_either (Int x) Null = refl
equal_either (Int x) (Int y) = both_ways (Int x) (Int y)
equal_either (Int x) (Text t) = both_ways (Int x) (Text t)
equal_either (Text s) Null = refl
equal_either (Text s) (Int y) = both_ways (Text s) (Int y)
equal_either (Text s) (Text t) = both_ways (Text s) (Text t)

not_true : (b : Bool) → IsTrue (not b) → b ≡ false
not_true false h = refl
not_true true h = absurd (cc)

-- the equality of a column of the innermost row with what that row does not change
pub of_column : (a b : Expr) (at : ℕ) (x : Value) (env : Env) → place a ≡ Some at → IsSteady b → x ≡ value_by wrapped b env → (row : List Value) → IsTrue (fails (Some (record { at = at; value = x })) row)
    → is_yes (value_truth Eq (value_by wrapped a (row ∷ drop 1 env)) (value_by wrapped b (row ∷ drop 1 env))) ≡ false
of_column a b at x env p s h row f =
    ap is_yes (ap₂ (value_truth Eq) (place_is wrapped [] (drop 1 env) row a at p) (sym (h ∙ s row env))) ∙ not_true (is_yes (value_truth Eq (slice_index_or row at Null) x)) f

-- the equality of one condition is one of all of them together
pub one_met : (ps : List Pred) (i : ℕ) (q : Pred) (outer : Env) → i < length ps → q ≡ get_or ps i q → (o found : Option Equality) → o ≡ found → IsMet q outer o → (row : List Value) → IsTrue (fails found row) → (db : Tables)
    → is_yes (all_of (map (pred_by wrapped) ps) db (row ∷ outer)) ≡ false
one_met ps i q outer l e o found h m row f db =
    let P : Option Equality → Type 0 = λ x. IsTrue (fails x row) in one_untrue db (row ∷ outer) ps i q l e (m row (subst P (sym h) f) db)
