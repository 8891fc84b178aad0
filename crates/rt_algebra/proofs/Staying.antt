-- A query stays the same where its parts do, layer by layer.
use Rattle.std.proofs.Common.{◌≡◌, ℕ, suc, ◌+◌, ◌<◌, List, [], ◌∷◌, ◌++◌, length, map, take, ◌≤◌, get_or, refl, sym, subst, ap, ap₂, arith, ◌∙◌, pos}
use mathlib.Core.Path.{fun_ext}
use Rattle.std.proofs.lemmas.List.{take_all}
use Rattle.std.proofs.lemmas.List.Elements.{All-more}
use Rattle.std.specs.List.{All as Each, filter}
use Rattle.rt_value.specs.declared.value.Op.TheVariants.{Eq}
use Rattle.rt_value.specs.declared.value.Value.{Value}
use Rattle.rt_value.specs.declared.value.Value.TheVariants as x
use Rattle.rt_value.specs.declared.truth.Truth.{Truth}
use Rattle.rt_value.specs.Truth.{truth_and, truth_or}
use Rattle.rt_value.specs.Value.{value_truth}
use Rattle.rt_schema.specs.Given.{Tables, Rows}
use Rattle.rt_algebra.specs.Answer.{answer_by, pred_by, is_yes, one_of_truth, pairs, product_after, all_of, any_of}
use Rattle.rt_algebra.specs.Expression.{wrapped, Env, row_by, value_by, term_by, expr_step, term_step, sum_from, mul_from, add_value, mul_value}
use Rattle.rt_algebra.specs.declared.expr.Expr.{Expr}
use Rattle.rt_algebra.specs.declared.expr.Term.{Term}
use Rattle.rt_algebra.specs.declared.expr.Expr.TheVariants as u
use Rattle.rt_algebra.specs.declared.expr.Expr.TheOpen.{Expr-F, Sum, Mul}
use Rattle.rt_algebra.specs.declared.expr.Expr.TheViews.{roll-Expr}
use Rattle.rt_algebra.specs.declared.expr.Expr.TheFolds.{fold-roll-Expr, map-Expr}
use Rattle.rt_algebra.specs.declared.query.Pred.{Pred}
use Rattle.rt_algebra.specs.declared.query.Query.{Query}
use Rattle.rt_algebra.specs.declared.query.Query.TheVariants as v
use Rattle.rt_algebra.specs.declared.query.Pred.TheVariants as w
use Rattle.rt_algebra.specs.Stays.{StaysValue, StaysTerm, StaysPred, StaysQuery}
use Rattle.rt_algebra.proofs.Equations.{at_select, at_project, at_product, at_one_of, at_and, at_or}

-- what holds of each so far, and of the next
pub each_more : {X : Type 0} (P : X → Type 0) (xs : List X) (i : ℕ) (y : X) → i < length xs → y ≡ get_or xs i y → Each P (take i xs) → P y → Each P (take (i + 1) xs)
each_more P xs i y l e h p = All-more P xs i y l h (subst P e p)

pub each_of : {X : Type 0} (P : X → Type 0) (xs : List X) (i : ℕ) → length xs ≤ i → Each P (take i xs) → Each P xs
each_of {X} P xs i l h = let Q : List X → Type 0 = Each P in subst Q (take_all i xs l) h

pub each_at : {X : Type 0} (P : X → Type 0) {xs ys : List X} → xs ≡ ys → Each P xs → Each P ys
each_at {X} P e h = let Q : List X → Type 0 = Each P in subst Q e h

-- the equations of `value_by`, layer by layer
module _ (env : Env) where
  of_value : (y : Expr-F Expr Term) → value_by wrapped (roll-Expr y) env ≡ expr_step wrapped (map-Expr Expr Term (Env → Value) (Env → Value) (value_by wrapped) (term_by wrapped) y) env
  of_value y = ap (λ f. f env) (fold-roll-Expr (Env → Value) (Env → Value) (expr_step wrapped) (term_step wrapped) y)

  at_sum : {e : Expr} (ts : List Term) → e ≡ u.Sum ts → value_by wrapped e env ≡ sum_from wrapped (x.Int (pos 0)) (map (term_by wrapped) ts) env
  at_sum ts h = ap (λ y. value_by wrapped y env) (h ∙ sym (u.rolls-Sum ts)) ∙ of_value (Sum ts)

  at_mul : {e : Expr} (es : List Expr) → e ≡ u.Mul es → value_by wrapped e env ≡ mul_from wrapped (x.Int (pos 1)) (map (value_by wrapped) es) env
  at_mul es h = ap (λ y. value_by wrapped y env) (h ∙ sym (u.rolls-Mul es)) ∙ of_value (Mul es)

module _ (n : ℕ) (front env : Env) (l : length front ≡ n) where
  sum_stays : (ts : List Term) (y : Value) → Each (StaysTerm n) ts → sum_from wrapped y (map (term_by wrapped) ts) (front ++ env) ≡ sum_from wrapped y (map (term_by wrapped) ts) front
  sum_stays [] y h = refl
  sum_stays (t ∷ ts) y h = ap (λ z. sum_from wrapped (add_value wrapped y z) (map (term_by wrapped) ts) (front ++ env)) (h 0 t (omega arith) front env l)
      ∙ sum_stays ts (add_value wrapped y (term_by wrapped t front)) (λ k d m. h (suc k) d (omega arith))

  mul_stays : (es : List Expr) (y : Value) → Each (StaysValue n) es → mul_from wrapped y (map (value_by wrapped) es) (front ++ env) ≡ mul_from wrapped y (map (value_by wrapped) es) front
  mul_stays [] y h = refl
  mul_stays (e ∷ es) y h = ap (λ z. mul_from wrapped (mul_value wrapped y z) (map (value_by wrapped) es) (front ++ env)) (h 0 e (omega arith) front env l)
      ∙ mul_stays es (mul_value wrapped y (value_by wrapped e front)) (λ k d m. h (suc k) d (omega arith))

  one_of_stays : (es : List Expr) (y : Value) → Each (StaysValue n) es → one_of_truth wrapped y es (front ++ env) ≡ one_of_truth wrapped y es front
  one_of_stays [] y h = refl
  one_of_stays (e ∷ es) y h = ap₂ (λ (z : Value) (t : Truth). truth_or (value_truth Eq y z) t) (h 0 e (omega arith) front env l) (one_of_stays es y (λ k d m. h (suc k) d (omega arith)))

  row_stays : (es : List Expr) → Each (StaysValue n) es → row_by wrapped es (front ++ env) ≡ row_by wrapped es front
  row_stays [] h = refl
  row_stays (e ∷ es) h = ap₂ ◌∷◌ (h 0 e (omega arith) front env l) (row_stays es (λ k d m. h (suc k) d (omega arith)))

  module _ (db : Tables) where
    all_stay : (ps : List Pred) → Each (StaysPred n) ps → all_of (map (pred_by wrapped) ps) db (front ++ env) ≡ all_of (map (pred_by wrapped) ps) db front
    all_stay [] h = refl
    all_stay (p ∷ ps) h = ap₂ truth_and (h 0 p (omega arith) db front env l) (all_stay ps (λ k d m. h (suc k) d (omega arith)))

    any_stay : (ps : List Pred) → Each (StaysPred n) ps → any_of (map (pred_by wrapped) ps) db (front ++ env) ≡ any_of (map (pred_by wrapped) ps) db front
    any_stay [] h = refl
    any_stay (p ∷ ps) h = ap₂ truth_or (h 0 p (omega arith) db front env l) (any_stay ps (λ k d m. h (suc k) d (omega arith)))

    product_stays : (qs : List Query) (rows : Rows) → Each (StaysQuery n) qs → product_after rows (map (answer_by wrapped) qs) db (front ++ env) ≡ product_after rows (map (answer_by wrapped) qs) db front
    product_stays [] rows h = refl
    product_stays (q ∷ qs) rows h = ap (λ ys. product_after (pairs rows ys) (map (answer_by wrapped) qs) db (front ++ env)) (h 0 q (omega arith) db front env l)
        ∙ product_stays qs (pairs rows (answer_by wrapped q db front)) (λ k d m. h (suc k) d (omega arith))

module _ (n : ℕ) where
  -- expressions
  pub stays_sum : {e : Expr} (ts : List Term) → e ≡ u.Sum ts → Each (StaysTerm n) ts → StaysValue n e
  stays_sum ts h g front env l = at_sum (front ++ env) ts h ∙ sum_stays n front env l ts (x.Int (pos 0)) g ∙ sym (at_sum front ts h)

  pub stays_mul : {e : Expr} (es : List Expr) → e ≡ u.Mul es → Each (StaysValue n) es → StaysValue n e
  stays_mul es h g front env l = at_mul (front ++ env) es h ∙ mul_stays n front env l es (x.Int (pos 1)) g ∙ sym (at_mul front es h)

  -- conditions
  pub stays_one_of : {p : Pred} (a : Expr) (es : List Expr) → p ≡ w.OneOf a es → StaysValue n a → Each (StaysValue n) es → StaysPred n p
  stays_one_of a es h f g db front env l = at_one_of db (front ++ env) a es h ∙ ap (λ y. one_of_truth wrapped y es (front ++ env)) (f front env l)
      ∙ one_of_stays n front env l es (value_by wrapped a front) g ∙ sym (at_one_of db front a es h)

  pub stays_and : {p : Pred} (ps : List Pred) → p ≡ w.And ps → Each (StaysPred n) ps → StaysPred n p
  stays_and ps h g db front env l = at_and db (front ++ env) ps h ∙ all_stay n front env l db ps g ∙ sym (at_and db front ps h)

  pub stays_or : {p : Pred} (ps : List Pred) → p ≡ w.Or ps → Each (StaysPred n) ps → StaysPred n p
  stays_or ps h g db front env l = at_or db (front ++ env) ps h ∙ any_stay n front env l db ps g ∙ sym (at_or db front ps h)

  -- queries
  pub stays_select : {q : Query} (a : Query) (p : Pred) → q ≡ v.Select a p → StaysQuery n a → StaysPred (n + 1) p → StaysQuery n q
  stays_select a p h f g db front env l = at_select db (front ++ env) a p h
      ∙ ap₂ filter (fun_ext (λ r. ap is_yes (g db (r ∷ front) env (let k = l in omega arith)))) (f db front env l) ∙ sym (at_select db front a p h)

  pub stays_project : {q : Query} (a : Query) (es : List Expr) → q ≡ v.Project a es → StaysQuery n a → Each (StaysValue (n + 1)) es → StaysQuery n q
  stays_project a es h f g db front env l = at_project db (front ++ env) a es h
      ∙ ap₂ map (fun_ext (λ r. row_stays (n + 1) (r ∷ front) env (let k = l in omega arith) es g)) (f db front env l) ∙ sym (at_project db front a es h)

  pub stays_product : {q : Query} (qs : List Query) → q ≡ v.Product qs → Each (StaysQuery n) qs → StaysQuery n q
  stays_product qs h g db front env l = at_product db (front ++ env) qs h ∙ product_stays n front env l db qs ([] ∷ []) g ∙ sym (at_product db front qs h)

  pub query_at : {a b : Query} → a ≡ b → StaysQuery n a → StaysQuery n b
  query_at e h = let P : Query → Type 0 = StaysQuery n in subst P e h
