-- Conditions without subqueries, and what one that is not true makes of all of them together.
use Rattle.std.proofs.Common.{◌≡◌, ℕ, suc, ◌<◌, false, List, [], ◌∷◌, length, map, get_or, refl, sym, ap, ap₂, arith, ◌∙◌}
use Rattle.std.proofs.lemmas.List.Folds.{list_all_at}
use Rattle.std.specs.List.{All as Each}
use Rattle.rt_value.specs.Truth.{truth_and, truth_or}
use Rattle.rt_schema.specs.Given.{Tables}
use Rattle.rt_algebra.specs.Answer.{all_of, any_of, is_yes, pred_by}
use Rattle.rt_algebra.specs.Expression.{Env, wrapped}
use Rattle.rt_algebra.specs.declared.query.Pred.{Pred}
use Rattle.rt_algebra.specs.declared.query.Pred.TheVariants as p
use Rattle.rt_algebra.specs.declared.query.Pred.TheOpen.{And, Or}
use Rattle.rt_split.specs.Refused.{IsSimple}
use Rattle.rt_split.specs.Split.{simple_all, simple_any, simple_by}
use Rattle.rt_split.proofs.Moving.{layered}
use Rattle.rt_split.proofs.Splitting.{all_of_yes}

module _ (db : Tables) (env : Env) where
  all_simply : (ps : List Pred) → Each IsSimple ps → all_of (map (pred_by wrapped) ps) db env ≡ simple_all (map (simple_by wrapped) ps) env
  all_simply [] h = refl
  all_simply (q ∷ ps) h = ap₂ truth_and (h 0 q (omega arith) db env) (all_simply ps (λ i d l. h (suc i) d (omega arith)))

  any_simply : (ps : List Pred) → Each IsSimple ps → any_of (map (pred_by wrapped) ps) db env ≡ simple_any (map (simple_by wrapped) ps) env
  any_simply [] h = refl
  any_simply (q ∷ ps) h = ap₂ truth_or (h 0 q (omega arith) db env) (any_simply ps (λ i d l. h (suc i) d (omega arith)))

  -- one that is not true makes all of them together not true
  pub one_untrue : (ps : List Pred) (i : ℕ) (q : Pred) → i < length ps → q ≡ get_or ps i q → is_yes (pred_by wrapped q db env) ≡ false → is_yes (all_of (map (pred_by wrapped) ps) db env) ≡ false
  one_untrue ps i q l e h =
      let test = λ (x : Pred). is_yes (pred_by wrapped x db env) in all_of_yes wrapped ps db env ∙ list_all_at test ps i q l (ap test (sym e) ∙ h)

pub simple_and : {q : Pred} (ps : List Pred) → q ≡ p.And ps → Each IsSimple ps → IsSimple q
simple_and {q} ps e h db env = layered wrapped 0 0 db env (And ps) q (e ∙ sym (p.rolls-And ps)) (all_simply db env ps h)

pub simple_or : {q : Pred} (ps : List Pred) → q ≡ p.Or ps → Each IsSimple ps → IsSimple q
simple_or {q} ps e h db env = layered wrapped 0 0 db env (Or ps) q (e ∙ sym (p.rolls-Or ps)) (any_simply db env ps h)
