-- The equations of answers, conditions and values, layer by layer.
use Rattle.std.proofs.Common.{◌≡◌, ◌∙◌, ℕ, ℤ, true, not, List, [], ◌∷◌, ◌++◌, map, refl, sym, ap, pos, neg_ℤ}
use Rattle.std.proofs.Math.IntN.{+ℤ_idl}
use Rattle.std.specs.Prelude.{slice_index_or}
use Rattle.std.specs.List.{filter}
use Rattle.rt_algebra.specs.Answer.{Answer, Condition, all_of, answer, has_row, is_yes, join_each, pairs, pred, pred_step, product_after, query_step, some_truth}
use Rattle.rt_algebra.specs.Expression.{Env, add_value, cell_of, exact, expr_step, neg_value, row_of, term_by, term_step, value_of}
use Rattle.rt_algebra.specs.declared.expr.Expr.{Expr}
use Rattle.rt_algebra.specs.declared.expr.Expr.TheViews.{roll-Expr}
use Rattle.rt_algebra.specs.declared.expr.Expr.TheFolds.{fold-roll-Expr, fold-roll-Term, map-Expr}
use Rattle.rt_algebra.specs.declared.expr.Expr.TheOpen as part
use Rattle.rt_algebra.specs.declared.expr.Expr.TheVariants as expr
use Rattle.rt_algebra.specs.declared.expr.Term.{Term, roll-Term}
use Rattle.rt_algebra.specs.declared.query.Pred.{Pred}
use Rattle.rt_algebra.specs.declared.query.Pred.TheFolds.{fold-roll-Pred, fold-roll-Query, map-Pred, map-Query}
use Rattle.rt_algebra.specs.declared.query.Pred.TheOpen.{Pred-F, Query-F}
use Rattle.rt_algebra.specs.declared.query.Pred.TheOpen as layer
use Rattle.rt_algebra.specs.declared.query.Pred.TheVariants as p
use Rattle.rt_algebra.specs.declared.query.Pred.TheViews.{roll-Pred, roll-Query}
use Rattle.rt_algebra.specs.declared.query.Query.{Query}
use Rattle.rt_algebra.specs.declared.query.Query.TheVariants as q
use Rattle.rt_schema.specs.Given.{Rows, Tables}
use Rattle.rt_value.specs.Truth.{truth_not}
use Rattle.rt_value.specs.Value.{null_truth, value_truth}
use Rattle.rt_value.specs.declared.value.Op.{Op}
use Rattle.rt_value.specs.declared.value.Value.{Value}
use Rattle.rt_value.specs.declared.value.Value.TheVariants as v

-- ---- values

module _ (env : Env) where
  of_part : (x : part.Expr-F Expr Term) → value_of (roll-Expr x) env ≡ expr_step exact (map-Expr Expr Term (Env → Value) (Env → Value) value_of (term_by exact) x) env
  of_part x = ap (λ f. f env) (fold-roll-Expr (Env → Value) (Env → Value) (expr_step exact) (term_step exact) x)

  pub value-Col : (up at : ℕ) → value_of (expr.Col up at) env ≡ cell_of env up at
  value-Col up at = ap (λ x. value_of x env) (sym (expr.rolls-Col up at)) ∙ of_part (part.Col up at)

  pub value-Int : (n : ℤ) → value_of (expr.Int n) env ≡ v.Int n
  value-Int n = ap (λ x. value_of x env) (sym (expr.rolls-Int n)) ∙ of_part (part.Int n)

  pub value-Text : (t : List ℕ) → value_of (expr.Text t) env ≡ v.Text t
  value-Text t = ap (λ x. value_of x env) (sym (expr.rolls-Text t)) ∙ of_part (part.Text t)

  pub value-Null : value_of expr.Null env ≡ v.Null
  value-Null = ap (λ x. value_of x env) (sym expr.rolls-Null) ∙ of_part part.Null

  -- a minus is a sum of one term
  pub value-minus : (n : ℤ) → value_of (expr.Sum (roll-Term (record { minus = true; of = expr.Int n }) ∷ [])) env ≡ v.Int (neg_ℤ n)
  value-minus n =
      let term : Term = roll-Term (record { minus = true; of = expr.Int n }) in
      let one : term_by exact term env ≡ v.Int (neg_ℤ n) = ap (λ f. f env) (fold-roll-Term (Env → Value) (Env → Value) (expr_step exact) (term_step exact) (record { minus = true; of = expr.Int n })) ∙ ap (neg_value exact) (value-Int n) in
      ap (λ x. value_of x env) (sym (expr.rolls-Sum (term ∷ []))) ∙ of_part (part.Sum (term ∷ [])) ∙ ap (add_value exact (v.Int (pos 0))) one ∙ ap (λ (n : ℤ). v.Int n) (+ℤ_idl (neg_ℤ n))

-- ---- queries and conditions

module _ (db : Tables) (env : Env) where
  of_layer : (x : Query-F Pred Query) → answer (roll-Query x) db env ≡ query_step exact (map-Query Pred Query Condition Answer pred answer x) db env
  of_layer x = ap (λ f. f db env) (fold-roll-Query Condition Answer (pred_step exact) (query_step exact) x)

  pub answer-Table : (t : ℕ) → answer (q.Table t) db env ≡ slice_index_or db t []
  answer-Table t = ap (λ x. answer x db env) (sym (q.rolls-Table t)) ∙ of_layer (layer.Table t)

  pub answer-Select : (a : Query) (c : Pred) → answer (q.Select a c) db env ≡ filter (λ r. is_yes (pred c db (r ∷ env))) (answer a db env)
  answer-Select a c = ap (λ x. answer x db env) (sym (q.rolls-Select a c)) ∙ of_layer (layer.Select a c)

  pub answer-Project : (a : Query) (es : List Expr) → answer (q.Project a es) db env ≡ map (λ r. row_of es (r ∷ env)) (answer a db env)
  answer-Project a es = ap (λ x. answer x db env) (sym (q.rolls-Project a es)) ∙ of_layer (layer.Project a es)

  answer-Product : (qs : List Query) → answer (q.Product qs) db env ≡ product_after ([] ∷ []) (map answer qs) db env
  answer-Product qs = ap (λ x. answer x db env) (sym (q.rolls-Product qs)) ∙ of_layer (layer.Product qs)

  pub answer-Union : (a b : Query) → answer (q.Union a b) db env ≡ answer a db env ++ answer b db env
  answer-Union a b = ap (λ x. answer x db env) (sym (q.rolls-Union a b)) ∙ of_layer (layer.Union a b)

  pub answer-Except : (a b : Query) → answer (q.Except a b) db env ≡ filter (λ r. not (has_row (answer b db env) r)) (answer a db env)
  answer-Except a b = ap (λ x. answer x db env) (sym (q.rolls-Except a b)) ∙ of_layer (layer.Except a b)

  pub answer-Intersect : (a b : Query) → answer (q.Intersect a b) db env ≡ filter (has_row (answer b db env)) (answer a db env)
  answer-Intersect a b = ap (λ x. answer x db env) (sym (q.rolls-Intersect a b)) ∙ of_layer (layer.Intersect a b)

  of_test : (x : Pred-F Pred Query) → pred (roll-Pred x) db env ≡ pred_step exact (map-Pred Pred Query Condition Answer pred answer x) db env
  of_test x = ap (λ f. f db env) (fold-roll-Pred Condition Answer (pred_step exact) (query_step exact) x)

  pub pred-Cmp : (op : Op) (a b : Expr) → pred (p.Cmp op a b) db env ≡ value_truth op (value_of a env) (value_of b env)
  pred-Cmp op a b = ap (λ x. pred x db env) (sym (p.rolls-Cmp op a b)) ∙ of_test (layer.Cmp op a b)

  pub pred-IsNull : (a : Expr) → pred (p.IsNull a) db env ≡ null_truth (value_of a env)
  pred-IsNull a = ap (λ x. pred x db env) (sym (p.rolls-IsNull a)) ∙ of_test (layer.IsNull a)

  pub pred-And : (ps : List Pred) → pred (p.And ps) db env ≡ all_of (map pred ps) db env
  pred-And ps = ap (λ x. pred x db env) (sym (p.rolls-And ps)) ∙ of_test (layer.And ps)

  pub pred-Not : (c : Pred) → pred (p.Not c) db env ≡ truth_not (pred c db env)
  pred-Not c = ap (λ x. pred x db env) (sym (p.rolls-Not c)) ∙ of_test (layer.Not c)

  pub pred-Exists : (a : Query) → pred (p.Exists a) db env ≡ some_truth (answer a db env)
  pred-Exists a = ap (λ x. pred x db env) (sym (p.rolls-Exists a)) ∙ of_test (layer.Exists a)

  joined-nothing : (rows : Rows) → join_each [] rows ≡ rows
  joined-nothing [] = refl
  joined-nothing (r ∷ rs) = ap (λ (rows : Rows). r ∷ rows) (joined-nothing rs)

  append-none : (rows : Rows) → rows ++ [] ≡ rows
  append-none [] = refl
  append-none (r ∷ rs) = ap (λ (rows : Rows). r ∷ rows) (append-none rs)

  -- a product of two is all pairs of their rows
  pub answer-pairs : (a b : Query) → answer (q.Product (a ∷ b ∷ [])) db env ≡ pairs (answer a db env) (answer b db env)
  answer-pairs a b = answer-Product (a ∷ b ∷ []) ∙ ap (λ (rows : Rows). pairs rows (answer b db env)) (append-none (join_each [] (answer a db env)) ∙ joined-nothing (answer a db env))
