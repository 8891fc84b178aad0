-- Each row of an answer is within the bounds of the query's columns, and evaluation modulo 2^128
-- gives the same rows.
use Rattle.std.proofs.Common.{◌≡◌, ℕ, zero, suc, ◌≤◌, max, Bool, true, false, cond, not, IsTrue, ◌&&◌, List, [], ◌∷◌, ◌++◌, map, Option, None, Some, subst, ap, refl, arith, slice_get, slice_index_or}
use Rattle.std.specs.Prelude.{is_some, if◌then◌else◌}
use Rattle.std.specs.List.{filter}
use Rattle.std.specs.Option.{option_and_then}
use Rattle.rt_value.specs.declared.value.Value.{Value}
use Rattle.rt_value.specs.declared.value.Value.TheVariants as v
use Rattle.rt_schema.specs.Given.{Rows, Tables}
use Rattle.rt_algebra.specs.Expression.{Env, exact, wrapped, value_by, row_by}
use Rattle.rt_algebra.specs.Answer.{Condition, Answer, pred_by, answer_by, pred_step, query_step, is_yes, one_of_truth, has_row, join_each, pairs, product_after, all_of, any_of}
use Rattle.rt_schema.specs.Schema.{kinds_match}
use Rattle.rt_algebra.specs.Columns.{Column, Columns, Scopes, column_of, with_column, item_columns, comparable, all_comparable, either_kind, merged_column, merged_columns, set_columns, ConditionTest, QueryColumns, all_typed, comparable_member, product_columns, pred_typed, query_columns, pred_typed_step, query_columns_step}
use Rattle.rt_algebra.specs.Within.{Within, RowWithin, RowsWithin, TablesWithin, EnvWithin}
use Rattle.rt_algebra.specs.declared.expr.Expr.{Expr}
use Rattle.rt_algebra.specs.declared.query.Pred.{Pred}
use Rattle.rt_algebra.specs.declared.query.Query.{Query}
use Rattle.rt_algebra.specs.declared.query.Pred.TheOpen.{Pred-F, Query-F, Cmp, IsNull, OneOf, And, Or, Not, Exists, Member, Table, Select, Project, Product, Union, Except, Intersect}
use Rattle.rt_algebra.specs.declared.query.Pred.TheViews.{roll-Pred, roll-Query}
use Rattle.rt_algebra.specs.declared.query.Pred.TheFolds.{fold-roll-Pred, fold-roll-Query, ind-Query, map-Pred, map-Query}
use Rattle.rt_algebra.proofs.Bounded.{IsColumn, expr_law}

-- the claims on a row and on rows: within the columns, and the same modulo 2^128
abbrev IsRow : List Value → List Value → Option Columns → Type 0
IsRow r w None = Unit {0}
IsRow r w (Some cs) = RowWithin r cs × (w ≡ r)

abbrev pub IsRows : Rows → Rows → Option Columns → Type 0
IsRows rows w None = Unit {0}
IsRows rows w (Some cs) = RowsWithin rows cs × (w ≡ rows)

-- truth values of tests
pub and-left : (a b : Bool) → IsTrue (a && b) → IsTrue a
and-left true b p = refl
and-left false b p = absurd (cc)

pub and-right : (a b : Bool) → IsTrue (a && b) → IsTrue b
and-right true b p = p
and-right false b p = absurd (cc)

-- lists of rows within columns
filter_within : (p : List Value → Bool) (cs : Columns) (rows : Rows) → RowsWithin rows cs → RowsWithin (filter p rows) cs
filter_within p cs [] w = tt
filter_within p cs (r ∷ rs) w = go (p r) (filter_within p cs rs w.1)
  where
    go : (b : Bool) → RowsWithin (filter p rs) cs → RowsWithin (cond b (r ∷ filter p rs) (filter p rs)) cs
    go true ih = (w.0, ih)
    go false ih = ih

append_within : (cs : Columns) (xs ys : Rows) → RowsWithin xs cs → RowsWithin ys cs → RowsWithin (xs ++ ys) cs
append_within cs [] ys p q = q
append_within cs (x ∷ xs) ys p q = (p.0, append_within cs xs ys p.1 q)

row_append : (r s : List Value) (cs ds : Columns) → RowWithin r cs → RowWithin s ds → RowWithin (r ++ s) (cs ++ ds)
row_append [] s [] ds p q = q
row_append [] s (c ∷ cs) ds p q = absurd p
row_append (x ∷ r) s [] ds p q = absurd p
row_append (x ∷ r) s (c ∷ cs) ds p q = (p.0, row_append r s cs ds p.1 q)

join_within : (r : List Value) (cs ds : Columns) (ys : Rows) → RowWithin r cs → RowsWithin ys ds → RowsWithin (join_each r ys) (cs ++ ds)
join_within r cs ds [] p q = tt
join_within r cs ds (y ∷ ys) p q = (row_append r y cs ds p q.0, join_within r cs ds ys p q.1)

pairs_within : (cs ds : Columns) (xs ys : Rows) → RowsWithin xs cs → RowsWithin ys ds → RowsWithin (pairs xs ys) (cs ++ ds)
pairs_within cs ds [] ys p q = tt
pairs_within cs ds (x ∷ xs) ys p q = append_within (cs ++ ds) (join_each x ys) (pairs xs ys) (join_within x cs ds ys p.0 q) (pairs_within cs ds xs ys p.1 q)

tables_law : (db : Tables) (tables : List Columns) → TablesWithin db tables → (t : ℕ) → IsRows (slice_index_or db t []) (slice_index_or db t []) (slice_get tables t)
tables_law [] [] w t = tt
tables_law [] (cs ∷ tables) w t = absurd w
tables_law (rows ∷ db) [] w t = absurd w
tables_law (rows ∷ db) (cs ∷ tables) w zero = (w.0, refl)
tables_law (rows ∷ db) (cs ∷ tables) w (suc t) = tables_law db tables w.1 t

-- set operators
more : (x : Value) (a b : ℕ) → a ≤ b → Within x a → Within x b
more v.Null a b h w = tt
more (v.Text t) a b h w = tt
more (v.Int n) a b h w = omega arith

abbrev Fits : List Value → Option Columns → Type 0
Fits r None = Unit {0}
Fits r (Some cs) = RowWithin r cs

merged_fits : (x : Value) (r : List Value) (c d : Column) (a : ℕ) → a ≤ max c.bound d.bound → Within x a → (o : Option Columns) → Fits r o → Fits (x ∷ r) (with_column (merged_column c d) o)
merged_fits x r c d a h p o q = go (kinds_match c.kind d.kind) o q
  where
    go : (b : Bool) (o : Option Columns) → Fits r o
        → Fits (x ∷ r) (with_column (if b then Some (record { kind = either_kind c.kind d.kind; bound = max c.bound d.bound }) else None) o)
    go false o q = tt
    go true None q = tt
    go true (Some cs) q = (more x a (max c.bound d.bound) h p, q)

left_fits : (r : List Value) (cs ds : Columns) → RowWithin r cs → Fits r (merged_columns cs ds)
left_fits [] [] [] p = tt
left_fits [] [] (d ∷ ds) p = tt
left_fits [] (c ∷ cs) ds p = absurd p
left_fits (x ∷ r) [] ds p = absurd p
left_fits (x ∷ r) (c ∷ cs) [] p = tt
left_fits (x ∷ r) (c ∷ cs) (d ∷ ds) p = merged_fits x r c d c.bound (omega arith) p.0 (merged_columns cs ds) (left_fits r cs ds p.1)

right_fits : (r : List Value) (cs ds : Columns) → RowWithin r ds → Fits r (merged_columns cs ds)
right_fits [] [] [] p = tt
right_fits [] (c ∷ cs) [] p = tt
right_fits [] cs (d ∷ ds) p = absurd p
right_fits (x ∷ r) cs [] p = absurd p
right_fits (x ∷ r) [] (d ∷ ds) p = tt
right_fits (x ∷ r) (c ∷ cs) (d ∷ ds) p = merged_fits x r c d d.bound (omega arith) p.0 (merged_columns cs ds) (right_fits r cs ds p.1)

abbrev AllFit : Rows → Option Columns → Type 0
AllFit rows None = Unit {0}
AllFit rows (Some cs) = RowsWithin rows cs

all_fit : (cs : Columns) (o : Option Columns) → ((r : List Value) → RowWithin r cs → Fits r o) → (rows : Rows) → RowsWithin rows cs → AllFit rows o
all_fit cs None f rows w = tt
all_fit cs (Some ds) f [] w = tt
all_fit cs (Some ds) f (r ∷ rs) w = (f r w.0, all_fit cs (Some ds) f rs w.1)

set_rows : (o : Option Columns) (rows w : Rows) → AllFit rows o → w ≡ rows → IsRows rows w o
set_rows None rows w p q = tt
set_rows (Some cs) rows w p q = (p, q)

append_fit : (o : Option Columns) (xs ys : Rows) → AllFit xs o → AllFit ys o → AllFit (xs ++ ys) o
append_fit None xs ys p q = tt
append_fit (Some cs) xs ys p q = append_within cs xs ys p q

union_law : (xs xw ys yw : Rows) (o u : Option Columns) → IsRows xs xw o → IsRows ys yw u → IsRows (xs ++ ys) (xw ++ yw) (set_columns o u)
union_law xs xw ys yw None u p q = tt
union_law xs xw ys yw (Some cs) None p q = tt
union_law xs xw ys yw (Some cs) (Some ds) p q = set_rows (merged_columns cs ds) (xs ++ ys) (xw ++ yw)
    (append_fit (merged_columns cs ds) xs ys (all_fit cs (merged_columns cs ds) (λ r h. left_fits r cs ds h) xs p.0) (all_fit ds (merged_columns cs ds) (λ r h. right_fits r cs ds h) ys q.0))
    (rw (p.1, q.1) refl)

-- the rows of the first that a test on the second keeps
kept_law : (test : Rows → List Value → Bool) (xs xw ys yw : Rows) (o u : Option Columns) → IsRows xs xw o → IsRows ys yw u
    → IsRows (filter (test ys) xs) (filter (test yw) xw) (set_columns o u)
kept_law test xs xw ys yw None u p q = tt
kept_law test xs xw ys yw (Some cs) None p q = tt
kept_law test xs xw ys yw (Some cs) (Some ds) p q = set_rows (merged_columns cs ds) (filter (test ys) xs) (filter (test yw) xw)
    (all_fit cs (merged_columns cs ds) (λ r h. left_fits r cs ds h) (filter (test ys) xs) (filter_within (test ys) cs xs p.0))
    (rw (p.1, q.1) refl)

-- expressions
typed_same : (x w : Value) (o : Option Column) → IsColumn x w o → IsTrue (is_some o) → w ≡ x
typed_same x w None p t = absurd (cc)
typed_same x w (Some c) p t = p.1

value_same : (e : Expr) (scopes : Scopes) (env : Env) → EnvWithin env scopes → IsTrue (is_some (column_of e scopes)) → value_by wrapped e env ≡ value_by exact e env
value_same e scopes env ew t = typed_same (value_by exact e env) (value_by wrapped e env) (column_of e scopes) (expr_law e scopes env ew) t

pub comparable-left : (o u : Option Column) → IsTrue (comparable o u) → IsTrue (is_some o)
comparable-left None u p = p
comparable-left (Some c) u p = refl

pub comparable-right : (o u : Option Column) → IsTrue (comparable o u) → IsTrue (is_some u)
comparable-right None u p = absurd (cc)
comparable-right (Some c) None p = p
comparable-right (Some c) (Some d) p = refl

pub member-left : (o : Option Column) (u : Option Columns) → IsTrue (comparable_member o u) → IsTrue (is_some o)
member-left o None p = absurd (cc)
member-left o (Some []) p = absurd (cc)
member-left o (Some (d ∷ [])) p = comparable-left o (Some d) p
member-left o (Some (d ∷ e ∷ ds)) p = absurd (cc)

pub member-right : (o : Option Column) (u : Option Columns) → IsTrue (comparable_member o u) → IsTrue (is_some u)
member-right o None p = p
member-right o (Some ds) p = refl

with_law : (x w : Value) (r rw' : List Value) (o : Option Column) (u : Option Columns) → IsColumn x w o → IsRow r rw' u → IsRow (x ∷ r) (w ∷ rw') (with_column o u)
with_law x w r rw' None u p q = tt
with_law x w r rw' (Some c) None p q = tt
with_law x w r rw' (Some c) (Some cs) p q = ((p.0, q.0), rw (p.1, q.1) refl)

row_law : (es : List Expr) (scopes : Scopes) (env : Env) → EnvWithin env scopes → IsRow (row_by exact es env) (row_by wrapped es env) (item_columns es scopes)
row_law [] scopes env ew = (tt, refl)
row_law (e ∷ es) scopes env ew = with_law (value_by exact e env) (value_by wrapped e env) (row_by exact es env) (row_by wrapped es env) (column_of e scopes) (item_columns es scopes)
    (expr_law e scopes env ew) (row_law es scopes env ew)

one_of_same : (x : Value) (o : Option Column) (es : List Expr) (scopes : Scopes) (env : Env) → EnvWithin env scopes → IsTrue (all_comparable o es scopes)
    → one_of_truth wrapped x es env ≡ one_of_truth exact x es env
one_of_same x o [] scopes env ew t = refl
one_of_same x o (e ∷ es) scopes env ew t =
    let first = value_same e scopes env ew (comparable-right o (column_of e scopes) (and-left _ (all_comparable o es scopes) t)) in
    let others = one_of_same x o es scopes env ew (and-right (comparable o (column_of e scopes)) _ t) in
    rw (first, others) refl

-- rows, each by its own
filter_same : (p q : List Value → Bool) (cs : Columns) → ((r : List Value) → RowWithin r cs → q r ≡ p r) → (rows : Rows) → RowsWithin rows cs → filter q rows ≡ filter p rows
filter_same p q cs f [] w = refl
filter_same p q cs f (r ∷ rs) w = let first = f r w.0 in let others = filter_same p q cs f rs w.1 in rw (first, others) refl

map_law : (f g : List Value → List Value) (cs : Columns) (o : Option Columns) → ((r : List Value) → RowWithin r cs → IsRow (f r) (g r) o)
    → (rows : Rows) → RowsWithin rows cs → IsRows (map f rows) (map g rows) o
map_law f g cs None h rows w = tt
map_law f g cs (Some ds) h [] w = (tt, refl)
map_law f g cs (Some ds) h (r ∷ rs) w =
    let first = h r w.0 in
    let others = map_law f g cs (Some ds) h rs w.1 in
    ((first.0, others.0), rw (first.1, others.1) refl)

pub rows_same : (rows w : Rows) (o : Option Columns) → IsRows rows w o → IsTrue (is_some o) → w ≡ rows
rows_same rows w None p t = absurd (cc)
rows_same rows w (Some cs) p t = p.1

module _ (tables : List Columns) (db : Tables) (tw : TablesWithin db tables) where
  abbrev PredLaw : Pred → Type 0
  PredLaw p = (scopes : Scopes) (env : Env) → EnvWithin env scopes → IsTrue (pred_typed p tables scopes) → pred_by wrapped p db env ≡ pred_by exact p db env

  abbrev QueryLaw : Query → Type 0
  QueryLaw q = (scopes : Scopes) (env : Env) → EnvWithin env scopes → IsRows (answer_by exact q db env) (answer_by wrapped q db env) (query_columns q tables scopes)

  abbrev SuchPred : Type 0
  SuchPred = (p : Pred) × PredLaw p

  abbrev SuchQuery : Type 0
  SuchQuery = (q : Query) × QueryLaw q

  abbrev preds : List SuchPred → List Pred
  preds ps = map (λ p. p.0) ps

  abbrev queries : List SuchQuery → List Query
  queries qs = map (λ q. q.0) qs

  all_same : (ps : List SuchPred) (scopes : Scopes) (env : Env) → EnvWithin env scopes → IsTrue (all_typed (map pred_typed (preds ps)) tables scopes)
      → all_of (map (pred_by wrapped) (preds ps)) db env ≡ all_of (map (pred_by exact) (preds ps)) db env
  all_same [] scopes env ew t = refl
  all_same (p ∷ ps) scopes env ew t =
      let first = p.1 scopes env ew (and-left _ (all_typed (map pred_typed (preds ps)) tables scopes) t) in
      let others = all_same ps scopes env ew (and-right (pred_typed p.0 tables scopes) _ t) in
      rw (first, others) refl

  any_same : (ps : List SuchPred) (scopes : Scopes) (env : Env) → EnvWithin env scopes → IsTrue (all_typed (map pred_typed (preds ps)) tables scopes)
      → any_of (map (pred_by wrapped) (preds ps)) db env ≡ any_of (map (pred_by exact) (preds ps)) db env
  any_same [] scopes env ew t = refl
  any_same (p ∷ ps) scopes env ew t =
      let first = p.1 scopes env ew (and-left _ (all_typed (map pred_typed (preds ps)) tables scopes) t) in
      let others = any_same ps scopes env ew (and-right (pred_typed p.0 tables scopes) _ t) in
      rw (first, others) refl

  -- the rows of a selection, by the columns of its source and the test of its condition
  select_law : (rows w : Rows) (p q : List Value → Bool) (test : Columns → Bool) (o : Option Columns) → IsRows rows w o
      → ((cs : Columns) → IsTrue (test cs) → (r : List Value) → RowWithin r cs → q r ≡ p r)
      → IsRows (filter p rows) (filter q w) (option_and_then (λ cs. if test cs then Some cs else None) o)
  select_law rows w p q test None h f = tt
  select_law rows w p q test (Some cs) h f = go (test cs) refl
    where
      go : (b : Bool) → test cs ≡ b → IsRows (filter p rows) (filter q w) (if b then Some cs else None)
      go false e = tt
      go true e = (filter_within p cs rows h.0, rw h.1 (filter_same p q cs (λ r rw'. f cs e r rw') rows h.0))

  project_law : (rows w : Rows) (f g : List Value → List Value) (items : Columns → Option Columns) (o : Option Columns) → IsRows rows w o
      → ((cs : Columns) (r : List Value) → RowWithin r cs → IsRow (f r) (g r) (items cs)) → IsRows (map f rows) (map g w) (option_and_then items o)
  project_law rows w f g items None h k = tt
  project_law rows w f g items (Some cs) h k = rw h.1 (map_law f g cs (items cs) (k cs) rows h.0)

  product_law : (qs : List SuchQuery) (front fw : Rows) (cs : Columns) (scopes : Scopes) (env : Env) → EnvWithin env scopes → RowsWithin front cs → fw ≡ front
      → IsRows (product_after front (map (answer_by exact) (queries qs)) db env) (product_after fw (map (answer_by wrapped) (queries qs)) db env)
      (product_columns cs (map query_columns (queries qs)) tables scopes)
  product_law [] front fw cs scopes env ew p e = (p, e)
  product_law (q ∷ qs) front fw cs scopes env ew p e =
      go (answer_by exact q.0 db env) (answer_by wrapped q.0 db env) (query_columns q.0 tables scopes) (q.1 scopes env ew) (λ f g c h i. product_law qs f g c scopes env ew h i)
    where
      go : (ys yw : Rows) (o : Option Columns) → IsRows ys yw o
          → ((f g : Rows) (c : Columns) → RowsWithin f c → g ≡ f → IsRows (product_after f (map (answer_by exact) (queries qs)) db env)
          (product_after g (map (answer_by wrapped) (queries qs)) db env) (product_columns c (map query_columns (queries qs)) tables scopes))
          → IsRows (product_after (pairs front ys) (map (answer_by exact) (queries qs)) db env) (product_after (pairs fw yw) (map (answer_by wrapped) (queries qs)) db env)
          (option_and_then (λ ds. product_columns (cs ++ ds) (map query_columns (queries qs)) tables scopes) o)
      go ys yw None h ih = tt
      go ys yw (Some ds) h ih = ih (pairs front ys) (pairs fw yw) (cs ++ ds) (pairs_within cs ds front ys p h.0) (rw (e, h.1) refl)

  abbrev below_pred : Pred-F SuchPred SuchQuery → Pred-F Pred Query
  below_pred = map-Pred SuchPred SuchQuery Pred Query (λ p. p.0) (λ q. q.0)

  abbrev below_query : Query-F SuchPred SuchQuery → Query-F Pred Query
  below_query = map-Query SuchPred SuchQuery Pred Query (λ p. p.0) (λ q. q.0)

  -- one layer, with the claims for its parts
  pred_layer : (y : Pred-F SuchPred SuchQuery) (scopes : Scopes) (env : Env) → EnvWithin env scopes
      → IsTrue (pred_typed_step (map-Pred Pred Query ConditionTest QueryColumns pred_typed query_columns (below_pred y)) tables scopes)
      → pred_step wrapped (map-Pred Pred Query Condition Answer (pred_by wrapped) (answer_by wrapped) (below_pred y)) db env
      ≡ pred_step exact (map-Pred Pred Query Condition Answer (pred_by exact) (answer_by exact) (below_pred y)) db env
  pred_layer (Cmp op a b) scopes env ew t =
      let x = value_same a scopes env ew (comparable-left (column_of a scopes) (column_of b scopes) t) in
      let y = value_same b scopes env ew (comparable-right (column_of a scopes) (column_of b scopes) t) in
      rw (x, y) refl
  pred_layer (IsNull e) scopes env ew t = let x = value_same e scopes env ew t in rw x refl
  pred_layer (OneOf e es) scopes env ew t =
      let x = value_same e scopes env ew (and-left _ (all_comparable (column_of e scopes) es scopes) t) in
      let others = one_of_same (value_by exact e env) (column_of e scopes) es scopes env ew (and-right (is_some (column_of e scopes)) _ t) in
      rw x others
  pred_layer (And ps) scopes env ew t = all_same ps scopes env ew t
  pred_layer (Or ps) scopes env ew t = any_same ps scopes env ew t
  pred_layer (Not p) scopes env ew t = let x = p.1 scopes env ew t in rw x refl
  pred_layer (Exists q) scopes env ew t = let x = rows_same _ _ (query_columns q.0 tables scopes) (q.1 scopes env ew) t in rw x refl
  pred_layer (Member e q) scopes env ew t =
      let x = value_same e scopes env ew (member-left (column_of e scopes) (query_columns q.0 tables scopes) t) in
      let y = rows_same _ _ (query_columns q.0 tables scopes) (q.1 scopes env ew) (member-right (column_of e scopes) (query_columns q.0 tables scopes) t) in
      rw (x, y) refl

  query_layer : (y : Query-F SuchPred SuchQuery) (scopes : Scopes) (env : Env) → EnvWithin env scopes
      → IsRows (query_step exact (map-Query Pred Query Condition Answer (pred_by exact) (answer_by exact) (below_query y)) db env)
      (query_step wrapped (map-Query Pred Query Condition Answer (pred_by wrapped) (answer_by wrapped) (below_query y)) db env)
      (query_columns_step (map-Query Pred Query ConditionTest QueryColumns pred_typed query_columns (below_query y)) tables scopes)
  query_layer (Table t) scopes env ew = tables_law db tables tw t
  query_layer (Select a p) scopes env ew = select_law (answer_by exact a.0 db env) (answer_by wrapped a.0 db env)
      (λ r. is_yes (pred_by exact p.0 db (r ∷ env))) (λ r. is_yes (pred_by wrapped p.0 db (r ∷ env))) (λ cs. pred_typed p.0 tables (cs ∷ scopes))
      (query_columns a.0 tables scopes) (a.1 scopes env ew) (λ cs t r h. ap is_yes (p.1 (cs ∷ scopes) (r ∷ env) (h, ew) t))
  query_layer (Project a es) scopes env ew = project_law (answer_by exact a.0 db env) (answer_by wrapped a.0 db env)
      (λ r. row_by exact es (r ∷ env)) (λ r. row_by wrapped es (r ∷ env)) (λ cs. item_columns es (cs ∷ scopes))
      (query_columns a.0 tables scopes) (a.1 scopes env ew) (λ cs r h. row_law es (cs ∷ scopes) (r ∷ env) (h, ew))
  query_layer (Product qs) scopes env ew = product_law qs ([] ∷ []) ([] ∷ []) [] scopes env ew (tt, tt) refl
  query_layer (Union a b) scopes env ew = union_law _ _ _ _ (query_columns a.0 tables scopes) (query_columns b.0 tables scopes) (a.1 scopes env ew) (b.1 scopes env ew)
  query_layer (Except a b) scopes env ew = kept_law (λ ys r. not (has_row ys r)) _ _ _ _ (query_columns a.0 tables scopes) (query_columns b.0 tables scopes) (a.1 scopes env ew) (b.1 scopes env ew)
  query_layer (Intersect a b) scopes env ew = kept_law has_row _ _ _ _ (query_columns a.0 tables scopes) (query_columns b.0 tables scopes) (a.1 scopes env ew) (b.1 scopes env ew)

  pred_rolls : (x : Pred-F Pred Query) → ((scopes : Scopes) (env : Env) → EnvWithin env scopes
      → IsTrue (pred_typed_step (map-Pred Pred Query ConditionTest QueryColumns pred_typed query_columns x) tables scopes)
      → pred_step wrapped (map-Pred Pred Query Condition Answer (pred_by wrapped) (answer_by wrapped) x) db env
      ≡ pred_step exact (map-Pred Pred Query Condition Answer (pred_by exact) (answer_by exact) x) db env)
      → PredLaw (roll-Pred x)
  pred_rolls x h scopes env ew t =
      let e = fold-roll-Pred Condition Answer (pred_step exact) (query_step exact) x in
      let f = fold-roll-Pred Condition Answer (pred_step wrapped) (query_step wrapped) x in
      let d = fold-roll-Pred ConditionTest QueryColumns pred_typed_step query_columns_step x in
      rw (e, f) (h scopes env ew (rw d at t))

  query_rolls : (x : Query-F Pred Query) → ((scopes : Scopes) (env : Env) → EnvWithin env scopes
      → IsRows (query_step exact (map-Query Pred Query Condition Answer (pred_by exact) (answer_by exact) x) db env)
      (query_step wrapped (map-Query Pred Query Condition Answer (pred_by wrapped) (answer_by wrapped) x) db env)
      (query_columns_step (map-Query Pred Query ConditionTest QueryColumns pred_typed query_columns x) tables scopes))
      → QueryLaw (roll-Query x)
  query_rolls x h scopes env ew =
      let e = fold-roll-Query Condition Answer (pred_step exact) (query_step exact) x in
      let f = fold-roll-Query Condition Answer (pred_step wrapped) (query_step wrapped) x in
      let d = fold-roll-Query ConditionTest QueryColumns pred_typed_step query_columns_step x in
      rw (e, f, d) (h scopes env ew)

  pub query_law : (q : Query) → QueryLaw q
  query_law = ind-Query PredLaw QueryLaw
      (λ x y is. subst (λ z. PredLaw (roll-Pred z)) is (pred_rolls (below_pred y) (pred_layer y)))
      (λ x y is. subst (λ z. QueryLaw (roll-Query z)) is (query_rolls (below_query y) (query_layer y)))
