-- Each expression that the evaluation of a typed query evaluates has a value within its bound.
use Rattle.std.proofs.Common.{◌≡◌, ℕ, zero, suc, ◌+◌, ◌*◌, ◌<◌, Bool, true, false, IsTrue, List, [], ◌∷◌, ◌++◌, map, length, Option, None, Some, slice_index_or, subst, refl, arith}
use Rattle.std.specs.Prelude.{is_some, unwrap_or, if◌then◌else◌}
use Rattle.std.specs.Option.{option_and_then}
use Rattle.rt_value.specs.declared.value.Value.{Value}
use Rattle.rt_schema.specs.Given.{Instance, Rows, Tables, is_instance}
use Rattle.rt_schema.specs.Kept.{kept}
use Rattle.rt_algebra.specs.Expression.{Env, exact, wrapped, value_by}
use Rattle.rt_algebra.specs.Answer.{answer}
use Rattle.rt_algebra.specs.Columns.{Column, Columns, Scopes, column_of, term_column, member_bound, step_bound, sum_bound, mul_bound, whole_column, expr_column_step, term_column_step, item_columns, with_column, comparable, all_comparable, set_columns, ConditionTest, QueryColumns, all_typed, product_columns, pred_typed, query_columns, pred_typed_step, query_columns_step, table_columns}
use Rattle.rt_algebra.specs.Within.{RowsWithin, TablesWithin, EnvWithin}
use Rattle.rt_algebra.specs.Sites.{Part, query, condition, expression, Site, site, expression_sites, condition_sites, query_sites, select_sites, project_sites, expression_parts, condition_parts, query_parts, parts_of, Evaluates, itself, part_of, IsBounded, StaysBounded}
use Rattle.rt_algebra.specs.Typed.{IsTyped}
use Rattle.rt_algebra.specs.declared.typed.Typed.{Typed}
use Rattle.rt_algebra.specs.declared.expr.Expr.{Expr}
use Rattle.rt_algebra.specs.declared.expr.Term.{Term}
use Rattle.rt_algebra.specs.declared.expr.Expr.TheOpen.{Expr-F, Col, Int, Text, Null, Sum, Mul}
use Rattle.rt_algebra.specs.declared.expr.Expr.TheViews.{out-Expr}
use Rattle.rt_algebra.specs.declared.expr.Expr.TheFolds.{fold_out-Expr, fold_out-Term, map-Expr}
use Rattle.rt_algebra.specs.declared.query.Pred.{Pred}
use Rattle.rt_algebra.specs.declared.query.Query.{Query}
use Rattle.rt_algebra.specs.declared.query.Pred.TheOpen.{Pred-F, Query-F, Cmp, IsNull, OneOf, And, Or, Not, Exists, Member, Table, Select, Project, Product, Union, Except, Intersect}
use Rattle.rt_algebra.specs.declared.query.Pred.TheViews.{out-Pred, out-Query}
use Rattle.rt_algebra.specs.declared.query.Pred.TheFolds.{fold_out-Pred, fold_out-Query, map-Pred, map-Query}
use Rattle.rt_algebra.proofs.Bounded.{IsColumn, expr_law}
use Rattle.rt_algebra.proofs.Rows.{IsRows, query_law, and-left, and-right, comparable-left, comparable-right, member-left, member-right}
use Rattle.rt_algebra.proofs.Instances.{kept-instance}
use Rattle.rt_algebra.proofs.Exact.{columns-some}

-- what is left of a chain of options that is there
chained : {A B : Type 0} (o : Option A) (f : A → Option B) → IsTrue (is_some (option_and_then f o)) → (a : A) × (o ≡ Some a) × IsTrue (is_some (f a))
chained None f t = absurd (cc)
chained (Some a) f t = (a, refl, t)

member_typed : (o : Option Column) (b : ℕ) → member_bound o ≡ Some b → IsTrue (is_some o)
member_typed None b e = absurd (cc)
member_typed (Some c) b e = refl

whole_typed : (o : Option ℕ) → IsTrue (is_some (whole_column o)) → IsTrue (is_some o)
whole_typed None t = t
whole_typed (Some b) t = refl

with-left : (o : Option Column) (u : Option Columns) → IsTrue (is_some (with_column o u)) → IsTrue (is_some o)
with-left None u t = t
with-left (Some c) u t = refl

with-right : (o : Option Column) (u : Option Columns) → IsTrue (is_some (with_column o u)) → IsTrue (is_some u)
with-right None u t = absurd (cc)
with-right (Some c) None t = t
with-right (Some c) (Some cs) t = refl

set-left : (o u : Option Columns) → IsTrue (is_some (set_columns o u)) → IsTrue (is_some o)
set-left None u t = t
set-left (Some cs) u t = refl

set-right : (o u : Option Columns) → IsTrue (is_some (set_columns o u)) → IsTrue (is_some u)
set-right None u t = absurd (cc)
set-right (Some cs) None t = t
set-right (Some cs) (Some ds) t = refl

yes : (b : Bool) (cs : Columns) → IsTrue (is_some (if b then Some cs else None)) → IsTrue b
yes true cs t = refl
yes false cs t = t

module _ (tables : List Columns) (db : Tables) (tw : TablesWithin db tables) where
  -- a typed part
  abbrev IsTypedPart : Part → Scopes → Type 0
  IsTypedPart (query q) scopes = IsTrue (is_some (query_columns q tables scopes))
  IsTypedPart (condition p) scopes = IsTrue (pred_typed p tables scopes)
  IsTypedPart (expression e) scopes = IsTrue (is_some (column_of e scopes))

  -- a typed part with rows in scope that are within the columns
  abbrev IsGood : Site → Type 0
  IsGood s = EnvWithin s.env s.scopes × IsTypedPart s.part s.scopes

  abbrev AllGood : List Site → Type 0
  AllGood [] = Unit {0}
  AllGood (s ∷ ss) = IsGood s × AllGood ss

  good_at : (ss : List Site) (k : ℕ) (s : Site) → k < length ss → slice_index_or ss k s ≡ s → AllGood ss → IsGood s
  good_at [] k s h e g = absurd (omega arith)
  good_at (t ∷ ss) zero s h e g = subst IsGood e g.0
  good_at (t ∷ ss) (suc k) s h e g = good_at ss k s (omega arith) e g.1

  good_append : (xs ys : List Site) → AllGood xs → AllGood ys → AllGood (xs ++ ys)
  good_append [] ys p q = q
  good_append (x ∷ xs) ys p q = (p.0, good_append xs ys p.1 q)

  -- expressions
  sum_good : (ts : List Term) (n : ℕ) (scopes : Scopes) (env : Env) → EnvWithin env scopes → IsTrue (is_some (sum_bound n (map term_column ts) scopes))
      → AllGood (expression_sites (map (λ t. t.of) ts) env scopes)
  sum_good [] n scopes env ew t = tt
  sum_good (m ∷ ts) n scopes env ew t =
      let d = fold_out-Term (Scopes → Option Column) (Scopes → Option Column) expr_column_step term_column_step m in
      let first = chained (member_bound (term_column m scopes)) (λ b. option_and_then (λ k. sum_bound k (map term_column ts) scopes) (step_bound (n + b))) t in
      let others = chained (step_bound (n + first.0)) (λ k. sum_bound k (map term_column ts) scopes) first.2 in
      ((ew, rw d at (member_typed (term_column m scopes) first.0 first.1)), sum_good ts others.0 scopes env ew others.2)

  mul_good : (es : List Expr) (n : ℕ) (scopes : Scopes) (env : Env) → EnvWithin env scopes → IsTrue (is_some (mul_bound n (map column_of es) scopes))
      → AllGood (expression_sites es env scopes)
  mul_good [] n scopes env ew t = tt
  mul_good (e ∷ es) n scopes env ew t =
      let first = chained (member_bound (column_of e scopes)) (λ b. option_and_then (λ k. mul_bound k (map column_of es) scopes) (step_bound (n * b))) t in
      let others = chained (step_bound (n * first.0)) (λ k. mul_bound k (map column_of es) scopes) first.2 in
      ((ew, member_typed (column_of e scopes) first.0 first.1), mul_good es others.0 scopes env ew others.2)

  expression_good : (x : Expr-F Expr Term) (scopes : Scopes) (env : Env) → EnvWithin env scopes
      → IsTrue (is_some (expr_column_step (map-Expr Expr Term (Scopes → Option Column) (Scopes → Option Column) column_of term_column x) scopes)) → AllGood (expression_parts x env scopes)
  expression_good (Col up at) scopes env ew t = tt
  expression_good (Int n) scopes env ew t = tt
  expression_good (Text s) scopes env ew t = tt
  expression_good Null scopes env ew t = tt
  expression_good (Sum ts) scopes env ew t = sum_good ts 0 scopes env ew (whole_typed (sum_bound 0 (map term_column ts) scopes) t)
  expression_good (Mul es) scopes env ew t = mul_good es 1 scopes env ew (whole_typed (mul_bound 1 (map column_of es) scopes) t)

  items_good : (es : List Expr) (scopes : Scopes) (env : Env) → EnvWithin env scopes → IsTrue (is_some (item_columns es scopes)) → AllGood (expression_sites es env scopes)
  items_good [] scopes env ew t = tt
  items_good (e ∷ es) scopes env ew t =
      ((ew, with-left (column_of e scopes) (item_columns es scopes) t), items_good es scopes env ew (with-right (column_of e scopes) (item_columns es scopes) t))

  compared_good : (o : Option Column) (es : List Expr) (scopes : Scopes) (env : Env) → EnvWithin env scopes → IsTrue (all_comparable o es scopes) → AllGood (expression_sites es env scopes)
  compared_good o [] scopes env ew t = tt
  compared_good o (e ∷ es) scopes env ew t =
      ((ew, comparable-right o (column_of e scopes) (and-left _ (all_comparable o es scopes) t)), compared_good o es scopes env ew (and-right (comparable o (column_of e scopes)) _ t))

  -- conditions
  conditions_good : (ps : List Pred) (scopes : Scopes) (env : Env) → EnvWithin env scopes → IsTrue (all_typed (map pred_typed ps) tables scopes) → AllGood (condition_sites ps env scopes)
  conditions_good [] scopes env ew t = tt
  conditions_good (p ∷ ps) scopes env ew t =
      ((ew, and-left _ (all_typed (map pred_typed ps) tables scopes) t), conditions_good ps scopes env ew (and-right (pred_typed p tables scopes) _ t))

  condition_good : (x : Pred-F Pred Query) (scopes : Scopes) (env : Env) → EnvWithin env scopes
      → IsTrue (pred_typed_step (map-Pred Pred Query ConditionTest QueryColumns pred_typed query_columns x) tables scopes) → AllGood (condition_parts x env scopes)
  condition_good (Cmp op a b) scopes env ew t =
      ((ew, comparable-left (column_of a scopes) (column_of b scopes) t), ((ew, comparable-right (column_of a scopes) (column_of b scopes) t), tt))
  condition_good (IsNull e) scopes env ew t = ((ew, t), tt)
  condition_good (OneOf e es) scopes env ew t =
      ((ew, and-left _ (all_comparable (column_of e scopes) es scopes) t), compared_good (column_of e scopes) es scopes env ew (and-right (is_some (column_of e scopes)) _ t))
  condition_good (And ps) scopes env ew t = conditions_good ps scopes env ew t
  condition_good (Or ps) scopes env ew t = conditions_good ps scopes env ew t
  condition_good (Not p) scopes env ew t = ((ew, t), tt)
  condition_good (Exists q) scopes env ew t = ((ew, t), tt)
  condition_good (Member e q) scopes env ew t =
      ((ew, member-left (column_of e scopes) (query_columns q tables scopes) t), ((ew, member-right (column_of e scopes) (query_columns q tables scopes) t), tt))

  -- queries
  abbrev RowsFit : Rows → Option Columns → Type 0
  RowsFit rows None = Unit {0}
  RowsFit rows (Some cs) = RowsWithin rows cs

  rows_fit : (rows w : Rows) (o : Option Columns) → IsRows rows w o → RowsFit rows o
  rows_fit rows w None h = tt
  rows_fit rows w (Some cs) h = h.0

  each_selected : (p : Pred) (rows : Rows) (cs : Columns) (scopes : Scopes) (env : Env) → EnvWithin env scopes → RowsWithin rows cs → IsTrue (pred_typed p tables (cs ∷ scopes))
      → AllGood (select_sites p rows cs env scopes)
  each_selected p [] cs scopes env ew w t = tt
  each_selected p (r ∷ rows) cs scopes env ew w t = (((w.0, ew), t), each_selected p rows cs scopes env ew w.1 t)

  select_good : (p : Pred) (rows : Rows) (o : Option Columns) (scopes : Scopes) (env : Env) → EnvWithin env scopes → RowsFit rows o
      → IsTrue (is_some (option_and_then (λ cs. if pred_typed p tables (cs ∷ scopes) then Some cs else None) o)) → AllGood (select_sites p rows (unwrap_or o []) env scopes)
  select_good p rows None scopes env ew w t = absurd (cc)
  select_good p rows (Some cs) scopes env ew w t = each_selected p rows cs scopes env ew w (yes (pred_typed p tables (cs ∷ scopes)) cs t)

  each_projected : (es : List Expr) (rows : Rows) (cs : Columns) (scopes : Scopes) (env : Env) → EnvWithin env scopes → RowsWithin rows cs
      → IsTrue (is_some (item_columns es (cs ∷ scopes))) → AllGood (project_sites es rows cs env scopes)
  each_projected es [] cs scopes env ew w t = tt
  each_projected es (r ∷ rows) cs scopes env ew w t =
      good_append (expression_sites es (r ∷ env) (cs ∷ scopes)) (project_sites es rows cs env scopes) (items_good es (cs ∷ scopes) (r ∷ env) (w.0, ew) t)
      (each_projected es rows cs scopes env ew w.1 t)

  project_good : (es : List Expr) (rows : Rows) (o : Option Columns) (scopes : Scopes) (env : Env) → EnvWithin env scopes → RowsFit rows o
      → IsTrue (is_some (option_and_then (λ cs. item_columns es (cs ∷ scopes)) o)) → AllGood (project_sites es rows (unwrap_or o []) env scopes)
  project_good es rows None scopes env ew w t = absurd (cc)
  project_good es rows (Some cs) scopes env ew w t = each_projected es rows cs scopes env ew w t

  product_good : (qs : List Query) (front : Columns) (scopes : Scopes) (env : Env) → EnvWithin env scopes → IsTrue (is_some (product_columns front (map query_columns qs) tables scopes))
      → AllGood (query_sites qs env scopes)
  product_good [] front scopes env ew t = tt
  product_good (q ∷ qs) front scopes env ew t =
      let first = chained (query_columns q tables scopes) (λ cs. product_columns (front ++ cs) (map query_columns qs) tables scopes) t in
      ((ew, rw first.1 refl), product_good qs (front ++ first.0) scopes env ew first.2)

  -- the source of a selection or a projection
  source_typed : (a : Query) (f : Columns → Option Columns) (scopes : Scopes) → IsTrue (is_some (option_and_then f (query_columns a tables scopes))) → IsTrue (is_some (query_columns a tables scopes))
  source_typed a f scopes t = let source = chained (query_columns a tables scopes) f t in rw source.1 refl

  pair_good : (a b : Query) (scopes : Scopes) (env : Env) → EnvWithin env scopes → IsTrue (is_some (set_columns (query_columns a tables scopes) (query_columns b tables scopes)))
      → AllGood (query_sites (a ∷ b ∷ []) env scopes)
  pair_good a b scopes env ew t =
      ((ew, set-left (query_columns a tables scopes) (query_columns b tables scopes) t), ((ew, set-right (query_columns a tables scopes) (query_columns b tables scopes) t), tt))

  query_good : (x : Query-F Pred Query) (scopes : Scopes) (env : Env) → EnvWithin env scopes
      → IsTrue (is_some (query_columns_step (map-Query Pred Query ConditionTest QueryColumns pred_typed query_columns x) tables scopes)) → AllGood (query_parts x db tables env scopes)
  query_good (Table n) scopes env ew t = tt
  query_good (Select a p) scopes env ew t = (
    (ew, source_typed a (λ cs. if pred_typed p tables (cs ∷ scopes) then Some cs else None) scopes t),
    select_good p (answer a db env) (query_columns a tables scopes) scopes env ew (rows_fit _ _ _ (query_law tables db tw a scopes env ew)) t,
  )
  query_good (Project a es) scopes env ew t = (
    (ew, source_typed a (λ cs. item_columns es (cs ∷ scopes)) scopes t),
    project_good es (answer a db env) (query_columns a tables scopes) scopes env ew (rows_fit _ _ _ (query_law tables db tw a scopes env ew)) t,
  )
  query_good (Product qs) scopes env ew t = product_good qs [] scopes env ew t
  query_good (Union a b) scopes env ew t = pair_good a b scopes env ew t
  query_good (Except a b) scopes env ew t = pair_good a b scopes env ew t
  query_good (Intersect a b) scopes env ew t = pair_good a b scopes env ew t

  -- sites
  parts_good : (part : Part) (env : Env) (scopes : Scopes) → IsGood (site part env scopes) → AllGood (parts_of part db tables env scopes)
  parts_good (query q) env scopes g =
      let d = fold_out-Query ConditionTest QueryColumns pred_typed_step query_columns_step q in query_good (out-Query q) scopes env g.0 (rw d at g.1)
  parts_good (condition p) env scopes g =
      let d = fold_out-Pred ConditionTest QueryColumns pred_typed_step query_columns_step p in condition_good (out-Pred p) scopes env g.0 (rw d at g.1)
  parts_good (expression e) env scopes g =
      let d = fold_out-Expr (Scopes → Option Column) (Scopes → Option Column) expr_column_step term_column_step e in expression_good (out-Expr e) scopes env g.0 (rw d at g.1)

  evaluates_good : {s u : Site} → Evaluates db tables s u → IsGood s → IsGood u
  evaluates_good itself g = g
  evaluates_good (part_of {s} {t} {u} c e) g =
      evaluates_good e (good_at (parts_of s.part db tables s.env s.scopes) c.0 t c.1 c.2 (parts_good s.part s.env s.scopes g))

  bounded : (x w : Value) (o : Option Column) → IsColumn x w o → IsTrue (is_some o) → IsBounded x o
  bounded x w None h t = absurd (cc)
  bounded x w (Some c) h t = h.0

  pub stays_bounded : (q : Query) → IsTrue (is_some (query_columns q tables [])) → StaysBounded q db tables
  stays_bounded q t e env scopes v =
      let g : IsGood (site (expression e) env scopes) = evaluates_good v (tt, t) in
      bounded (value_by exact e env) (value_by wrapped e env) (column_of e scopes) (expr_law e scopes env g.0) g.1

pub typed_bounded : (given : Instance) (keep : List Bool) (typed : Typed) → IsTrue (is_instance given) → IsTyped given.kinds typed
    → StaysBounded typed.query (kept given.tables keep) (table_columns given.kinds)
typed_bounded given keep typed h t = stays_bounded (table_columns given.kinds) (kept given.tables keep) (kept-instance given keep h) typed.query
    (columns-some typed.kinds typed.bounds _ t.columns)
