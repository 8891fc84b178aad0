-- What a query answers and what a condition says, one layer at a time.
use Rattle.std.proofs.Common.{◌≡◌, ℕ, not, List, [], ◌∷◌, ◌++◌, map, get_or, sym, ap, ◌∙◌}
use Rattle.std.specs.List.{filter}
use Rattle.rt_value.specs.declared.value.Op.{Op}
use Rattle.rt_value.specs.Truth.{truth_not}
use Rattle.rt_value.specs.Value.{value_truth, null_truth}
use Rattle.rt_schema.specs.Given.{Tables}
use Rattle.rt_algebra.specs.Answer.{Condition, Answer, answer_by, pred_by, query_step, pred_step, is_yes, some_truth, member_truth, one_of_truth, has_row, product_after, all_of, any_of}
use Rattle.rt_algebra.specs.Expression.{wrapped, Env, row_by, value_by}
use Rattle.rt_algebra.specs.declared.expr.Expr.{Expr}
use Rattle.rt_algebra.specs.declared.query.Pred.{Pred}
use Rattle.rt_algebra.specs.declared.query.Query.{Query}
use Rattle.rt_algebra.specs.declared.query.Query.TheVariants as v
use Rattle.rt_algebra.specs.declared.query.Pred.TheVariants as w
use Rattle.rt_algebra.specs.declared.query.Pred.TheOpen.{Pred-F, Query-F, Cmp, IsNull, OneOf, And, Or, Not, Exists, Member, Table, Select, Project, Product, Union, Except, Intersect}
use Rattle.rt_algebra.specs.declared.query.Pred.TheViews.{roll-Pred, roll-Query}
use Rattle.rt_algebra.specs.declared.query.Pred.TheFolds.{fold-roll-Pred, fold-roll-Query, map-Pred, map-Query}

module _ (db : Tables) (env : Env) where
  of_layer : (x : Query-F Pred Query) → answer_by wrapped (roll-Query x) db env ≡ query_step wrapped (map-Query Pred Query Condition Answer (pred_by wrapped) (answer_by wrapped) x) db env
  of_layer x = ap (λ f. f db env) (fold-roll-Query Condition Answer (pred_step wrapped) (query_step wrapped) x)

  pub at_table : {q : Query} (t : ℕ) → q ≡ v.Table t → answer_by wrapped q db env ≡ get_or db t []
  at_table t e = ap (λ x. answer_by wrapped x db env) (e ∙ sym (v.rolls-Table t)) ∙ of_layer (Table t)

  pub at_select : {q : Query} (a : Query) (p : Pred) → q ≡ v.Select a p → answer_by wrapped q db env ≡ filter (λ r. is_yes (pred_by wrapped p db (r ∷ env))) (answer_by wrapped a db env)
  at_select a p e = ap (λ x. answer_by wrapped x db env) (e ∙ sym (v.rolls-Select a p)) ∙ of_layer (Select a p)

  pub at_project : {q : Query} (a : Query) (es : List Expr) → q ≡ v.Project a es → answer_by wrapped q db env ≡ map (λ r. row_by wrapped es (r ∷ env)) (answer_by wrapped a db env)
  at_project a es e = ap (λ x. answer_by wrapped x db env) (e ∙ sym (v.rolls-Project a es)) ∙ of_layer (Project a es)

  pub at_product : {q : Query} (qs : List Query) → q ≡ v.Product qs → answer_by wrapped q db env ≡ product_after ([] ∷ []) (map (answer_by wrapped) qs) db env
  at_product qs e = ap (λ x. answer_by wrapped x db env) (e ∙ sym (v.rolls-Product qs)) ∙ of_layer (Product qs)

  pub at_union : {q : Query} (a b : Query) → q ≡ v.Union a b → answer_by wrapped q db env ≡ answer_by wrapped a db env ++ answer_by wrapped b db env
  at_union a b e = ap (λ x. answer_by wrapped x db env) (e ∙ sym (v.rolls-Union a b)) ∙ of_layer (Union a b)

  pub at_except : {q : Query} (a b : Query) → q ≡ v.Except a b → answer_by wrapped q db env ≡ filter (λ r. not (has_row (answer_by wrapped b db env) r)) (answer_by wrapped a db env)
  at_except a b e = ap (λ x. answer_by wrapped x db env) (e ∙ sym (v.rolls-Except a b)) ∙ of_layer (Except a b)

  pub at_intersect : {q : Query} (a b : Query) → q ≡ v.Intersect a b → answer_by wrapped q db env ≡ filter (has_row (answer_by wrapped b db env)) (answer_by wrapped a db env)
  at_intersect a b e = ap (λ x. answer_by wrapped x db env) (e ∙ sym (v.rolls-Intersect a b)) ∙ of_layer (Intersect a b)

  of_test : (x : Pred-F Pred Query) → pred_by wrapped (roll-Pred x) db env ≡ pred_step wrapped (map-Pred Pred Query Condition Answer (pred_by wrapped) (answer_by wrapped) x) db env
  of_test x = ap (λ f. f db env) (fold-roll-Pred Condition Answer (pred_step wrapped) (query_step wrapped) x)

  pub at_cmp : {p : Pred} (op : Op) (a b : Expr) → p ≡ w.Cmp op a b → pred_by wrapped p db env ≡ value_truth op (value_by wrapped a env) (value_by wrapped b env)
  at_cmp op a b e = ap (λ x. pred_by wrapped x db env) (e ∙ sym (w.rolls-Cmp op a b)) ∙ of_test (Cmp op a b)

  pub at_is_null : {p : Pred} (a : Expr) → p ≡ w.IsNull a → pred_by wrapped p db env ≡ null_truth (value_by wrapped a env)
  at_is_null a e = ap (λ x. pred_by wrapped x db env) (e ∙ sym (w.rolls-IsNull a)) ∙ of_test (IsNull a)

  pub at_one_of : {p : Pred} (a : Expr) (es : List Expr) → p ≡ w.OneOf a es → pred_by wrapped p db env ≡ one_of_truth wrapped (value_by wrapped a env) es env
  at_one_of a es e = ap (λ x. pred_by wrapped x db env) (e ∙ sym (w.rolls-OneOf a es)) ∙ of_test (OneOf a es)

  pub at_and : {p : Pred} (ps : List Pred) → p ≡ w.And ps → pred_by wrapped p db env ≡ all_of (map (pred_by wrapped) ps) db env
  at_and ps e = ap (λ x. pred_by wrapped x db env) (e ∙ sym (w.rolls-And ps)) ∙ of_test (And ps)

  pub at_or : {p : Pred} (ps : List Pred) → p ≡ w.Or ps → pred_by wrapped p db env ≡ any_of (map (pred_by wrapped) ps) db env
  at_or ps e = ap (λ x. pred_by wrapped x db env) (e ∙ sym (w.rolls-Or ps)) ∙ of_test (Or ps)

  pub at_not : {p : Pred} (a : Pred) → p ≡ w.Not a → pred_by wrapped p db env ≡ truth_not (pred_by wrapped a db env)
  at_not a e = ap (λ x. pred_by wrapped x db env) (e ∙ sym (w.rolls-Not a)) ∙ of_test (Not a)

  pub at_exists : {p : Pred} (q : Query) → p ≡ w.Exists q → pred_by wrapped p db env ≡ some_truth (answer_by wrapped q db env)
  at_exists q e = ap (λ x. pred_by wrapped x db env) (e ∙ sym (w.rolls-Exists q)) ∙ of_test (Exists q)

  pub at_member : {p : Pred} (a : Expr) (q : Query) → p ≡ w.Member a q → pred_by wrapped p db env ≡ member_truth (value_by wrapped a env) (answer_by wrapped q db env)
  at_member a q e = ap (λ x. pred_by wrapped x db env) (e ∙ sym (w.rolls-Member a q)) ∙ of_test (Member a q)
