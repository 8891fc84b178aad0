-- An expression and a condition over the row of a member are worth what they are worth over the
-- whole row.
use Rattle.std.proofs.Common.{◌≡◌, ℕ, ℤ, pos, zero, suc, ◌+◌, ◌-◌, ◌<◌, ◌≤◌, Bool, true, false, List, [], ◌∷◌, ◌++◌, map, Option, None, Some, cond, refl, sym, subst, ap, ap₂, ◌∙◌, slice_index_or, arith}
use Rattle.std.specs.Prelude.{nat_eq, if◌then◌else◌}
use Rattle.std.specs.Option.{option_map}
use Rattle.std.proofs.lemmas.Bool.Decides.{nat_tests}
use Rattle.std.proofs.lemmas.List.{append-nil, append_assoc}
use Rattle.rt_value.specs.declared.value.Op.TheVariants.{Eq}
use Rattle.rt_value.specs.declared.value.Value.{Value}
use Rattle.rt_value.specs.declared.value.Value.TheVariants as v
use Rattle.rt_value.specs.declared.truth.Truth.{Truth}
use Rattle.rt_value.specs.Truth.{truth_not, truth_and, truth_or}
use Rattle.rt_value.specs.Value.{value_truth, null_truth}
use Rattle.rt_schema.specs.Given.{Tables}
use Rattle.rt_algebra.specs.Expression.{Env, value_by, term_by, expr_step, term_step, sum_from, mul_from, add_value, mul_value, neg_value, cell_of}
use Rattle.rt_algebra.specs.Answer.{Condition, Answer, pred_by, answer_by, pred_step, query_step, all_of, any_of, one_of_truth}
use Rattle.rt_split.specs.Split.{all_from, both, lies, term, moved, moved_term, moved_step, moved_term_step, moved_column, moved_pred, moved_pred_step, simple_by, simple_step, simple_all, simple_any}
use Rattle.rt_algebra.specs.declared.expr.Expr.{Expr}
use Rattle.rt_algebra.specs.declared.expr.Expr.TheVariants as e
use Rattle.rt_algebra.specs.declared.expr.Term.{Term}
use Rattle.rt_algebra.specs.declared.expr.Expr.TheOpen.{Expr-F, Term-F, Col, Int, Text, Null, Sum, Mul}
use Rattle.rt_algebra.specs.declared.expr.Expr.TheViews.{roll-Expr, roll-Term}
use Rattle.rt_algebra.specs.declared.expr.Expr.TheFolds.{fold-roll-Expr, fold-roll-Term, ind-Expr, map-Expr, map-Term}
use Rattle.rt_algebra.specs.declared.query.Pred.{Pred}
use Rattle.rt_algebra.specs.declared.query.Pred.TheVariants as p
use Rattle.rt_algebra.specs.declared.query.Query.{Query}
use Rattle.rt_algebra.specs.declared.query.Pred.TheOpen.{Pred-F, Cmp, IsNull, OneOf, And, Or, Not, Exists, Member}
use Rattle.rt_algebra.specs.declared.query.Pred.TheViews.{roll-Pred}
use Rattle.rt_algebra.specs.declared.query.Pred.TheFolds.{fold-roll-Pred, ind-Pred, map-Pred}

-- options that are there
pub some_same : {X : Type 0} (x y : X) → Some x ≡ Some y → x ≡ y
some_same x y h = cc

head_same : {X : Type 0} (x y : X) (xs ys : List X) → (x ∷ xs) ≡ (y ∷ ys) → x ≡ y
head_same x y xs ys h = cc

tail_same : {X : Type 0} (x y : X) (xs ys : List X) → (x ∷ xs) ≡ (y ∷ ys) → xs ≡ ys
tail_same x y xs ys h = cc

never : {X A : Type 0} (x : X) → None ≡ Some x → A
never x h = absurd (cc)

never_more : {X A : Type 0} (x : X) (xs : List X) → [] ≡ x ∷ xs → A
never_more x xs h = absurd (cc)

never_less : {X A : Type 0} (x : X) (xs : List X) → x ∷ xs ≡ [] → A
never_less x xs h = absurd (cc)

mapped : {X Y : Type 0} (f : X → Y) (o : Option X) (y : Y) → option_map f o ≡ Some y → (x : X) × (o ≡ Some x) × (y ≡ f x)
mapped f None y h = absurd (cc)
mapped f (Some x) y h = (x, refl, sym (some_same (f x) y h))

both_there : {X Y Z : Type 0} (f : X → Y → Z) (o : Option X) (u : Option Y) (z : Z) → both f o u ≡ Some z → (x : X) × (y : Y) × (o ≡ Some x) × (u ≡ Some y) × (z ≡ f x y)
both_there f None u z h = absurd (cc)
both_there f (Some x) None z h = absurd (cc)
both_there f (Some x) (Some y) z h = (x, y, refl, refl, sym (some_same (f x y) z h))

all_after : {X : Type 0} (found : List X) (os : List (Option X)) (ys : List X) → all_from found os ≡ Some ys → (zs : List X) × (ys ≡ found ++ zs) × (os ≡ map Some zs)
all_after found [] ys h = ([], sym (some_same found ys h) ∙ sym (append-nil found), refl)
all_after found (None ∷ os) ys h = absurd (cc)
all_after found (Some x ∷ os) ys h = let r = all_after (found ++ x ∷ []) os ys h in (x ∷ r.0, r.1 ∙ append_assoc found (x ∷ []) r.0, ap (λ us. Some x ∷ us) r.2)

all_there : {X : Type 0} (os : List (Option X)) (ys : List X) → all_from [] os ≡ Some ys → os ≡ map Some ys
all_there os ys h = let r = all_after [] os ys h in r.2 ∙ ap (map Some) (sym r.1)

-- members that become others, each with the truth of the one that it becomes
module _ {S P D : Type 0} (first : S → P) (of : P → Option D) where
  all_same : (u : D → Condition) (w : P → Condition) (db : Tables) (inner outer : Env) → ((s : S) (d : D) → of (first s) ≡ Some d → u d db inner ≡ w (first s) db outer)
      → (ss : List S) (ds : List D) → map of (map first ss) ≡ map Some ds → all_of (map u ds) db inner ≡ all_of (map w (map first ss)) db outer
  all_same u w db inner outer same [] [] h = refl
  all_same u w db inner outer same [] (d ∷ ds) h = absurd (cc)
  all_same u w db inner outer same (s ∷ ss) [] h = absurd (cc)
  all_same u w db inner outer same (s ∷ ss) (d ∷ ds) h =
      ap₂ truth_and (same s d (head_same _ _ _ _ h)) (all_same u w db inner outer same ss ds (tail_same _ _ _ _ h))

  any_same : (u : D → Condition) (w : P → Condition) (db : Tables) (inner outer : Env) → ((s : S) (d : D) → of (first s) ≡ Some d → u d db inner ≡ w (first s) db outer)
      → (ss : List S) (ds : List D) → map of (map first ss) ≡ map Some ds → any_of (map u ds) db inner ≡ any_of (map w (map first ss)) db outer
  any_same u w db inner outer same [] [] h = refl
  any_same u w db inner outer same [] (d ∷ ds) h = absurd (cc)
  any_same u w db inner outer same (s ∷ ss) [] h = absurd (cc)
  any_same u w db inner outer same (s ∷ ss) (d ∷ ds) h =
      ap₂ truth_or (same s d (head_same _ _ _ _ h)) (any_same u w db inner outer same ss ds (tail_same _ _ _ _ h))

  all_simply : (u : D → Condition) (v : D → Env → Truth) (db : Tables) (env : Env) → ((s : S) (d : D) → of (first s) ≡ Some d → u d db env ≡ v d env)
      → (ss : List S) (ds : List D) → map of (map first ss) ≡ map Some ds → all_of (map u ds) db env ≡ simple_all (map v ds) env
  all_simply u v db env same [] [] h = refl
  all_simply u v db env same [] (d ∷ ds) h = absurd (cc)
  all_simply u v db env same (s ∷ ss) [] h = absurd (cc)
  all_simply u v db env same (s ∷ ss) (d ∷ ds) h =
      ap₂ truth_and (same s d (head_same _ _ _ _ h)) (all_simply u v db env same ss ds (tail_same _ _ _ _ h))

  any_simply : (u : D → Condition) (v : D → Env → Truth) (db : Tables) (env : Env) → ((s : S) (d : D) → of (first s) ≡ Some d → u d db env ≡ v d env)
      → (ss : List S) (ds : List D) → map of (map first ss) ≡ map Some ds → any_of (map u ds) db env ≡ simple_any (map v ds) env
  any_simply u v db env same [] [] h = refl
  any_simply u v db env same [] (d ∷ ds) h = absurd (cc)
  any_simply u v db env same (s ∷ ss) [] h = absurd (cc)
  any_simply u v db env same (s ∷ ss) (d ∷ ds) h =
      ap₂ truth_or (same s d (head_same _ _ _ _ h)) (any_simply u v db env same ss ds (tail_same _ _ _ _ h))

module _ (fit : ℤ → ℤ) (base width : ℕ) (row whole : List Value)
    (cell : (at : ℕ) → base ≤ at → at < base + width → slice_index_or whole at v.Null ≡ slice_index_or row (at - base) v.Null) (env : Env) where
  abbrev Inner : Env
  Inner = row ∷ env

  abbrev Outer : Env
  Outer = whole ∷ env

  abbrev ExprLaw : Expr → Type 0
  ExprLaw x = (d : Expr) → moved base width x ≡ Some d → value_by fit d Inner ≡ value_by fit x Outer

  abbrev TermLaw : Term → Type 0
  TermLaw t = (d : Term) → moved_term base width t ≡ Some d → term_by fit d Inner ≡ term_by fit t Outer

  abbrev SuchExpr : Type 0
  SuchExpr = (x : Expr) × ExprLaw x

  abbrev SuchTerm : Type 0
  SuchTerm = (t : Term) × TermLaw t

  abbrev exprs : List SuchExpr → List Expr
  exprs es = map (λ x. x.0) es

  abbrev terms : List SuchTerm → List Term
  terms ts = map (λ t. t.0) ts

  of_value : (y : Expr-F Expr Term) (env : Env) → value_by fit (roll-Expr y) env ≡ expr_step fit (map-Expr Expr Term (Env → Value) (Env → Value) (value_by fit) (term_by fit) y) env
  of_value y env = ap (λ f. f env) (fold-roll-Expr (Env → Value) (Env → Value) (expr_step fit) (term_step fit) y)

  sum_law : (ts : List SuchTerm) (ds : List Term) → map (moved_term base width) (terms ts) ≡ map Some ds → (x : Value)
      → sum_from fit x (map (term_by fit) ds) Inner ≡ sum_from fit x (map (term_by fit) (terms ts)) Outer
  sum_law [] [] h x = refl
  sum_law [] (d ∷ ds) h x = never_more _ _ h
  sum_law (t ∷ ts) [] h x = never_less _ _ h
  sum_law (t ∷ ts) (d ∷ ds) h x =
      let first = t.1 d (head_same _ _ _ _ h) in
      ap (λ y. sum_from fit (add_value fit x y) (map (term_by fit) ds) Inner) first ∙ sum_law ts ds (tail_same _ _ _ _ h) (add_value fit x (term_by fit t.0 Outer))

  mul_law : (es : List SuchExpr) (ds : List Expr) → map (moved base width) (exprs es) ≡ map Some ds → (x : Value)
      → mul_from fit x (map (value_by fit) ds) Inner ≡ mul_from fit x (map (value_by fit) (exprs es)) Outer
  mul_law [] [] h x = refl
  mul_law [] (d ∷ ds) h x = never_more _ _ h
  mul_law (t ∷ ts) [] h x = never_less _ _ h
  mul_law (t ∷ ts) (d ∷ ds) h x =
      let first = t.1 d (head_same _ _ _ _ h) in
      ap (λ y. mul_from fit (mul_value fit x y) (map (value_by fit) ds) Inner) first ∙ mul_law ts ds (tail_same _ _ _ _ h) (mul_value fit x (value_by fit t.0 Outer))

  here : (at : ℕ) (d : Expr) (b : Bool) → lies base width at ≡ b → (if b then Some (e.Col 0 (at - base)) else None) ≡ Some d
      → value_by fit d Inner ≡ slice_index_or whole at v.Null
  here at d false e h = absurd (cc)
  here at d true l h =
      ap (λ x. value_by fit x Inner) (sym (some_same _ d h) ∙ sym (e.rolls-Col 0 (at - base))) ∙ of_value (Col 0 (at - base)) Inner
      ∙ sym (cell at (grind (arith, nat_tests)) (grind (arith, nat_tests)))

  column_law : (up at : ℕ) (d : Expr) → moved_column (nat_eq up 0) base width up at ≡ Some d → value_by fit d Inner ≡ cell_of Outer up at
  column_law zero at d h = here at d (lies base width at) refl h
  column_law (suc up) at d h =
      let further : nat_eq (suc up) 0 ≡ false = grind (arith, nat_tests) in
      let same : Some (e.Col (suc up) at) ≡ Some d = rw further at h in
      ap (λ x. value_by fit x Inner) (sym (some_same _ d same) ∙ sym (e.rolls-Col (suc up) at)) ∙ of_value (Col (suc up) at) Inner

  abbrev below_expr : Expr-F SuchExpr SuchTerm → Expr-F Expr Term
  below_expr = map-Expr SuchExpr SuchTerm Expr Term (λ x. x.0) (λ t. t.0)

  -- one layer, with the claims for its members
  layer : (y : Expr-F SuchExpr SuchTerm) (d : Expr)
      → moved_step base width (map-Expr Expr Term (Option Expr) (Option Term) (moved base width) (moved_term base width) (below_expr y)) ≡ Some d
      → value_by fit d Inner ≡ expr_step fit (map-Expr Expr Term (Env → Value) (Env → Value) (value_by fit) (term_by fit) (below_expr y)) Outer
  layer (Col up at) d h = column_law up at d h
  layer (Int n) d h = ap (λ x. value_by fit x Inner) (sym (some_same _ d h) ∙ sym (e.rolls-Int n)) ∙ of_value (Int n) Inner
  layer (Text t) d h = ap (λ x. value_by fit x Inner) (sym (some_same _ d h) ∙ sym (e.rolls-Text t)) ∙ of_value (Text t) Inner
  layer Null d h = ap (λ x. value_by fit x Inner) (sym (some_same _ d h) ∙ sym e.rolls-Null) ∙ of_value Null Inner
  layer (Sum ts) d h =
      let r = mapped e.Sum (all_from [] (map (moved_term base width) (terms ts))) d h in
      ap (λ x. value_by fit x Inner) (r.2 ∙ sym (e.rolls-Sum r.0)) ∙ of_value (Sum r.0) Inner ∙ sum_law ts r.0 (all_there _ r.0 r.1) (v.Int (pos 0))
  layer (Mul es) d h =
      let r = mapped e.Mul (all_from [] (map (moved base width) (exprs es))) d h in
      ap (λ x. value_by fit x Inner) (r.2 ∙ sym (e.rolls-Mul r.0)) ∙ of_value (Mul r.0) Inner ∙ mul_law es r.0 (all_there _ r.0 r.1) (v.Int (pos 1))

  expr_rolls : (x : Expr-F Expr Term) → ((d : Expr)
      → moved_step base width (map-Expr Expr Term (Option Expr) (Option Term) (moved base width) (moved_term base width) x) ≡ Some d
      → value_by fit d Inner ≡ expr_step fit (map-Expr Expr Term (Env → Value) (Env → Value) (value_by fit) (term_by fit) x) Outer)
      → ExprLaw (roll-Expr x)
  expr_rolls x h d m =
      let f = fold-roll-Expr (Option Expr) (Option Term) (moved_step base width) moved_term_step x in
      h d (rw f at m) ∙ sym (of_value x Outer)

  term_rolls : (y : Term-F SuchExpr SuchTerm) → TermLaw (roll-Term (map-Term SuchExpr SuchTerm Expr Term (λ x. x.0) (λ t. t.0) y))
  term_rolls y d m =
      let x : Term-F Expr Term = map-Term SuchExpr SuchTerm Expr Term (λ x. x.0) (λ t. t.0) y in
      let f = fold-roll-Term (Option Expr) (Option Term) (moved_step base width) moved_term_step x in
      let g = ap (λ f. f Outer) (fold-roll-Term (Env → Value) (Env → Value) (expr_step fit) (term_step fit) x) in
      let r = mapped (term y.minus) (moved base width y.of.0) d (rw f at m) in
      let k = ap (λ f. f Inner) (fold-roll-Term (Env → Value) (Env → Value) (expr_step fit) (term_step fit) (record { minus = y.minus; of = r.0 })) in
      ap (λ t. term_by fit t Inner) r.2 ∙ k ∙ ap (λ z. cond y.minus (neg_value fit z) z) (y.of.1 r.0 r.1) ∙ sym g

  pub moved_same : (x : Expr) → ExprLaw x
  moved_same = ind-Expr ExprLaw TermLaw
      (λ x y is. subst (λ z. ExprLaw (roll-Expr z)) is (expr_rolls (below_expr y) (layer y)))
      (λ x y is. subst (λ z. TermLaw (roll-Term z)) is (term_rolls y))

  module _ (db : Tables) where
    abbrev PredLaw : Pred → Type 0
    PredLaw q = (d : Pred) → moved_pred base width q ≡ Some d → pred_by fit d db Inner ≡ pred_by fit q db Outer

    abbrev QueryLaw : Query → Type 0
    QueryLaw q = Unit {0}

    abbrev SuchPred : Type 0
    SuchPred = (q : Pred) × PredLaw q

    abbrev SuchQuery : Type 0
    SuchQuery = (q : Query) × QueryLaw q

    abbrev preds : List SuchPred → List Pred
    preds ps = map (λ q. q.0) ps

    of_pred : (y : Pred-F Pred Query) (env : Env) → pred_by fit (roll-Pred y) db env ≡ pred_step fit (map-Pred Pred Query Condition Answer (pred_by fit) (answer_by fit) y) db env
    of_pred y env = ap (λ f. f db env) (fold-roll-Pred Condition Answer (pred_step fit) (query_step fit) y)

    one_of_law : (x : Value) (es ds : List Expr) → map (moved base width) es ≡ map Some ds → one_of_truth fit x ds Inner ≡ one_of_truth fit x es Outer
    one_of_law x [] [] h = refl
    one_of_law x [] (d ∷ ds) h = absurd (cc)
    one_of_law x (t ∷ es) [] h = absurd (cc)
    one_of_law x (t ∷ es) (d ∷ ds) h = ap₂ (λ (y : Value) (t : Truth). truth_or (value_truth Eq x y) t) (moved_same t d (head_same _ _ _ _ h)) (one_of_law x es ds (tail_same _ _ _ _ h))

    abbrev below_pred : Pred-F SuchPred SuchQuery → Pred-F Pred Query
    below_pred = map-Pred SuchPred SuchQuery Pred Query (λ q. q.0) (λ q. q.0)

    abbrev none : Query → Unit {0}
    none q = tt

    pred_layer : (y : Pred-F SuchPred SuchQuery) (d : Pred)
        → moved_pred_step base width (map-Pred Pred Query (Option Pred) (Unit {0}) (moved_pred base width) none (below_pred y)) ≡ Some d
        → pred_by fit d db Inner ≡ pred_step fit (map-Pred Pred Query Condition Answer (pred_by fit) (answer_by fit) (below_pred y)) db Outer
    pred_layer (Cmp op a b) d h =
        let r = both_there (p.Cmp op) (moved base width a) (moved base width b) d h in
        ap (λ x. pred_by fit x db Inner) (r.4 ∙ sym (p.rolls-Cmp op r.0 r.1)) ∙ of_pred (Cmp op r.0 r.1) Inner ∙ ap₂ (value_truth op) (moved_same a r.0 r.2) (moved_same b r.1 r.3)
    pred_layer (IsNull a) d h =
        let r = mapped p.IsNull (moved base width a) d h in
        ap (λ x. pred_by fit x db Inner) (r.2 ∙ sym (p.rolls-IsNull r.0)) ∙ of_pred (IsNull r.0) Inner ∙ ap null_truth (moved_same a r.0 r.1)
    pred_layer (OneOf a es) d h =
        let r = both_there p.OneOf (moved base width a) (all_from [] (map (moved base width) es)) d h in
        ap (λ x. pred_by fit x db Inner) (r.4 ∙ sym (p.rolls-OneOf r.0 r.1)) ∙ of_pred (OneOf r.0 r.1) Inner
        ∙ ap (λ x. one_of_truth fit x r.1 Inner) (moved_same a r.0 r.2) ∙ one_of_law (value_by fit a Outer) es r.1 (all_there _ r.1 r.3)
    pred_layer (And ps) d h =
        let r = mapped p.And (all_from [] (map (moved_pred base width) (preds ps))) d h in
        ap (λ x. pred_by fit x db Inner) (r.2 ∙ sym (p.rolls-And r.0)) ∙ of_pred (And r.0) Inner ∙ all_same (λ q. q.0) (moved_pred base width) (pred_by fit) (pred_by fit) db Inner Outer (λ q d e. q.1 d e) ps r.0 (all_there _ r.0 r.1)
    pred_layer (Or ps) d h =
        let r = mapped p.Or (all_from [] (map (moved_pred base width) (preds ps))) d h in
        ap (λ x. pred_by fit x db Inner) (r.2 ∙ sym (p.rolls-Or r.0)) ∙ of_pred (Or r.0) Inner ∙ any_same (λ q. q.0) (moved_pred base width) (pred_by fit) (pred_by fit) db Inner Outer (λ q d e. q.1 d e) ps r.0 (all_there _ r.0 r.1)
    pred_layer (Not q) d h =
        let r = mapped p.Not (moved_pred base width q.0) d h in
        ap (λ x. pred_by fit x db Inner) (r.2 ∙ sym (p.rolls-Not r.0)) ∙ of_pred (Not r.0) Inner ∙ ap truth_not (q.1 r.0 r.1)
    pred_layer (Exists q) d h = never d h
    pred_layer (Member a q) d h = never d h

    pred_rolls : (x : Pred-F Pred Query) → ((d : Pred)
        → moved_pred_step base width (map-Pred Pred Query (Option Pred) (Unit {0}) (moved_pred base width) none x) ≡ Some d
        → pred_by fit d db Inner ≡ pred_step fit (map-Pred Pred Query Condition Answer (pred_by fit) (answer_by fit) x) db Outer)
        → PredLaw (roll-Pred x)
    pred_rolls x h d m =
        let f = fold-roll-Pred (Option Pred) (Unit {0}) (moved_pred_step base width) (λ q. tt) x in
        h d (rw f at m) ∙ sym (of_pred x Outer)

    pub moved_pred_same : (q : Pred) → PredLaw q
    moved_pred_same = ind-Pred PredLaw QueryLaw
        (λ x y is. subst (λ z. PredLaw (roll-Pred z)) is (pred_rolls (below_pred y) (pred_layer y)))
        (λ x y is. tt)

-- what is moved has no subquery
module _ (fit : ℤ → ℤ) (base width : ℕ) (db : Tables) (env : Env) where
  abbrev SimpleLaw : Pred → Type 0
  SimpleLaw q = (d : Pred) → moved_pred base width q ≡ Some d → pred_by fit d db env ≡ simple_by fit d env

  abbrev Anything : Query → Type 0
  Anything q = Unit {0}

  abbrev SuchSimple : Type 0
  SuchSimple = (q : Pred) × SimpleLaw q

  abbrev SuchAny : Type 0
  SuchAny = (q : Query) × Anything q

  abbrev simples : List SuchSimple → List Pred
  simples ps = map (λ q. q.0) ps

  abbrev no_query : Query → Unit {0}
  no_query q = tt

  worth : (y : Pred-F Pred Query) → pred_by fit (roll-Pred y) db env ≡ pred_step fit (map-Pred Pred Query Condition Answer (pred_by fit) (answer_by fit) y) db env
  worth y = ap (λ f. f db env) (fold-roll-Pred Condition Answer (pred_step fit) (query_step fit) y)

  simply : (y : Pred-F Pred Query) → simple_by fit (roll-Pred y) env ≡ simple_step fit (map-Pred Pred Query (Env → Truth) (Unit {0}) (simple_by fit) no_query y) env
  simply y = ap (λ f. f env) (fold-roll-Pred (Env → Truth) (Unit {0}) (simple_step fit) (λ q. tt) y)

  pub layered : (y : Pred-F Pred Query) (d : Pred) → d ≡ roll-Pred y
      → pred_step fit (map-Pred Pred Query Condition Answer (pred_by fit) (answer_by fit) y) db env ≡ simple_step fit (map-Pred Pred Query (Env → Truth) (Unit {0}) (simple_by fit) no_query y) env
      → pred_by fit d db env ≡ simple_by fit d env
  layered y d e h = ap (λ x. pred_by fit x db env) e ∙ worth y ∙ h ∙ sym (simply y) ∙ ap (λ x. simple_by fit x env) (sym e)

  abbrev below_simple : Pred-F SuchSimple SuchAny → Pred-F Pred Query
  below_simple = map-Pred SuchSimple SuchAny Pred Query (λ q. q.0) (λ q. q.0)

  simple_layer : (y : Pred-F SuchSimple SuchAny) (d : Pred)
      → moved_pred_step base width (map-Pred Pred Query (Option Pred) (Unit {0}) (moved_pred base width) no_query (below_simple y)) ≡ Some d
      → pred_by fit d db env ≡ simple_by fit d env
  simple_layer (Cmp op a b) d h =
      let r = both_there (p.Cmp op) (moved base width a) (moved base width b) d h in
      layered (Cmp op r.0 r.1) d (r.4 ∙ sym (p.rolls-Cmp op r.0 r.1)) refl
  simple_layer (IsNull a) d h =
      let r = mapped p.IsNull (moved base width a) d h in layered (IsNull r.0) d (r.2 ∙ sym (p.rolls-IsNull r.0)) refl
  simple_layer (OneOf a es) d h =
      let r = both_there p.OneOf (moved base width a) (all_from [] (map (moved base width) es)) d h in
      layered (OneOf r.0 r.1) d (r.4 ∙ sym (p.rolls-OneOf r.0 r.1)) refl
  simple_layer (And ps) d h =
      let r = mapped p.And (all_from [] (map (moved_pred base width) (simples ps))) d h in
      layered (And r.0) d (r.2 ∙ sym (p.rolls-And r.0)) (all_simply (λ q. q.0) (moved_pred base width) (pred_by fit) (simple_by fit) db env (λ q d e. q.1 d e) ps r.0 (all_there _ r.0 r.1))
  simple_layer (Or ps) d h =
      let r = mapped p.Or (all_from [] (map (moved_pred base width) (simples ps))) d h in
      layered (Or r.0) d (r.2 ∙ sym (p.rolls-Or r.0)) (any_simply (λ q. q.0) (moved_pred base width) (pred_by fit) (simple_by fit) db env (λ q d e. q.1 d e) ps r.0 (all_there _ r.0 r.1))
  simple_layer (Not q) d h =
      let r = mapped p.Not (moved_pred base width q.0) d h in
      layered (Not r.0) d (r.2 ∙ sym (p.rolls-Not r.0)) (ap truth_not (q.1 r.0 r.1))
  simple_layer (Exists q) d h = never d h
  simple_layer (Member a q) d h = never d h

  simple_rolls : (x : Pred-F Pred Query) → ((d : Pred)
      → moved_pred_step base width (map-Pred Pred Query (Option Pred) (Unit {0}) (moved_pred base width) no_query x) ≡ Some d
      → pred_by fit d db env ≡ simple_by fit d env)
      → SimpleLaw (roll-Pred x)
  simple_rolls x h d m =
      let f = fold-roll-Pred (Option Pred) (Unit {0}) (moved_pred_step base width) (λ q. tt) x in
      h d (rw f at m)

  pub moved_simple : (q : Pred) → SimpleLaw q
  moved_simple = ind-Pred SimpleLaw Anything
      (λ x y is. subst (λ z. SimpleLaw (roll-Pred z)) is (simple_rolls (below_simple y) (simple_layer y)))
      (λ x y is. tt)
