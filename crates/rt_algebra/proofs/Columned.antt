-- The columns of queries, conditions and expressions, layer by layer.
use Rattle.std.proofs.Common.{◌≡◌, ◌∙◌, ℕ, ℤ, Bool, true, ◌&&◌, List, [], ◌∷◌, map, Option, Some, None, sym, ap, arith, slice_get}
use Rattle.std.specs.Prelude.{◌+◌, ◌^◌, ◌-◌, if◌then◌else◌, is_some, nat_le, unsigned_abs}
use Rattle.std.specs.Option.{option_and_then}
use Rattle.rt_algebra.specs.Columns.{Column, Columns, ConditionTest, QueryColumns, Scopes, all_comparable, all_typed, column, column_at, column_of, comparable, comparable_member, expr_column_step, item_columns, member_bound, mul_bound, pred_typed, pred_typed_step, product_columns, query_columns, query_columns_step, set_columns, step_bound, sum_bound, term_column, term_column_step, whole_column}
use Rattle.rt_algebra.specs.declared.expr.Expr.{Expr}
use Rattle.rt_algebra.specs.declared.expr.Expr.TheFolds.{fold-roll-Expr, fold-roll-Term, map-Expr}
use Rattle.rt_algebra.specs.declared.expr.Expr.TheOpen as part
use Rattle.rt_algebra.specs.declared.expr.Expr.TheVariants as expr
use Rattle.rt_algebra.specs.declared.expr.Expr.TheViews.{roll-Expr}
use Rattle.rt_algebra.specs.declared.expr.Term.{Term, roll-Term}
use Rattle.rt_algebra.specs.declared.query.Pred.{Pred}
use Rattle.rt_algebra.specs.declared.query.Pred.TheFolds.{fold-roll-Pred, fold-roll-Query, map-Pred, map-Query}
use Rattle.rt_algebra.specs.declared.query.Pred.TheOpen.{Pred-F, Query-F}
use Rattle.rt_algebra.specs.declared.query.Pred.TheOpen as layer
use Rattle.rt_algebra.specs.declared.query.Pred.TheVariants as p
use Rattle.rt_algebra.specs.declared.query.Pred.TheViews.{roll-Pred, roll-Query}
use Rattle.rt_algebra.specs.declared.query.Query.{Query}
use Rattle.rt_algebra.specs.declared.query.Query.TheVariants as q
use Rattle.rt_schema.specs.declared.table.ColKind.TheVariants.{Whole, Text as Texts}
use Rattle.rt_value.specs.declared.value.Op.{Op}

module _ (scopes : Scopes) where
  of_part : (x : part.Expr-F Expr Term) → column_of (roll-Expr x) scopes ≡ expr_column_step (map-Expr Expr Term (Scopes → Option Column) (Scopes → Option Column) column_of term_column x) scopes
  of_part x = ap (λ f. f scopes) (fold-roll-Expr (Scopes → Option Column) (Scopes → Option Column) expr_column_step term_column_step x)

  pub column-Col : (up at : ℕ) → column_of (expr.Col up at) scopes ≡ column_at (slice_get scopes up) at
  column-Col up at = ap (λ x. column_of x scopes) (sym (expr.rolls-Col up at)) ∙ of_part (part.Col up at)

  pub column-Int : (n : ℤ) → column_of (expr.Int n) scopes ≡ Some (column Whole (unsigned_abs n))
  column-Int n = ap (λ x. column_of x scopes) (sym (expr.rolls-Int n)) ∙ of_part (part.Int n)

  pub column-Text : (t : List ℕ) → column_of (expr.Text t) scopes ≡ Some (column Texts 0)
  column-Text t = ap (λ x. column_of x scopes) (sym (expr.rolls-Text t)) ∙ of_part (part.Text t)

  pub column-Null : column_of expr.Null scopes ≡ Some (record { kind = None; bound = 0 })
  column-Null = ap (λ x. column_of x scopes) (sym expr.rolls-Null) ∙ of_part part.Null

  pub column-Sum : (ts : List Term) → column_of (expr.Sum ts) scopes ≡ whole_column (sum_bound 0 (map term_column ts) scopes)
  column-Sum ts = ap (λ x. column_of x scopes) (sym (expr.rolls-Sum ts)) ∙ of_part (part.Sum ts)

  pub column-Mul : (es : List Expr) → column_of (expr.Mul es) scopes ≡ whole_column (mul_bound 1 (map column_of es) scopes)
  column-Mul es = ap (λ x. column_of x scopes) (sym (expr.rolls-Mul es)) ∙ of_part (part.Mul es)

  pub column-term : (minus : Bool) (e : Expr) → term_column (roll-Term (record { minus = minus; of = e })) scopes ≡ column_of e scopes
  column-term minus e = ap (λ f. f scopes) (fold-roll-Term (Scopes → Option Column) (Scopes → Option Column) expr_column_step term_column_step (record { minus = minus; of = e }))

  from-none : (n : ℕ) → 0 + n ≡ n
  from-none n = omega arith

  bounded : (n : ℕ) → nat_le n (2 ^ 127 - 1) ≡ true → option_and_then (λ m. Some m) (step_bound n) ≡ Some n
  bounded n h = ap (λ b. option_and_then (λ m. Some m) (if b then Some n else None)) h

  pub column-minus : (n : ℤ) → nat_le (unsigned_abs n) (2 ^ 127 - 1) ≡ true
      → column_of (expr.Sum (roll-Term (record { minus = true; of = expr.Int n }) ∷ [])) scopes ≡ Some (column Whole (unsigned_abs n))
  column-minus n h =
      let term : Term = roll-Term (record { minus = true; of = expr.Int n }) in
      let one : term_column term scopes ≡ Some (column Whole (unsigned_abs n)) = column-term true (expr.Int n) ∙ column-Int n in
      column-Sum (term ∷ [])
      ∙ ap (λ c. whole_column (option_and_then (λ b. option_and_then (λ m. Some m) (step_bound (0 + b))) (member_bound c))) one
      ∙ ap (λ m. whole_column (option_and_then (λ m. Some m) (step_bound m))) (from-none (unsigned_abs n)) ∙ ap whole_column (bounded (unsigned_abs n) h)

module _ (tables : List Columns) (scopes : Scopes) where
  of_layer : (x : Query-F Pred Query) → query_columns (roll-Query x) tables scopes ≡ query_columns_step (map-Query Pred Query ConditionTest QueryColumns pred_typed query_columns x) tables scopes
  of_layer x = ap (λ f. f tables scopes) (fold-roll-Query ConditionTest QueryColumns pred_typed_step query_columns_step x)

  pub columns-Table : (t : ℕ) → query_columns (q.Table t) tables scopes ≡ slice_get tables t
  columns-Table t = ap (λ x. query_columns x tables scopes) (sym (q.rolls-Table t)) ∙ of_layer (layer.Table t)

  pub columns-Select : (a : Query) (c : Pred) → query_columns (q.Select a c) tables scopes ≡ option_and_then (λ cs. if pred_typed c tables (cs ∷ scopes) then Some cs else None) (query_columns a tables scopes)
  columns-Select a c = ap (λ x. query_columns x tables scopes) (sym (q.rolls-Select a c)) ∙ of_layer (layer.Select a c)

  pub columns-Project : (a : Query) (es : List Expr) → query_columns (q.Project a es) tables scopes ≡ option_and_then (λ cs. item_columns es (cs ∷ scopes)) (query_columns a tables scopes)
  columns-Project a es = ap (λ x. query_columns x tables scopes) (sym (q.rolls-Project a es)) ∙ of_layer (layer.Project a es)

  pub columns-Product : (qs : List Query) → query_columns (q.Product qs) tables scopes ≡ product_columns [] (map query_columns qs) tables scopes
  columns-Product qs = ap (λ x. query_columns x tables scopes) (sym (q.rolls-Product qs)) ∙ of_layer (layer.Product qs)

  pub columns-Union : (a b : Query) → query_columns (q.Union a b) tables scopes ≡ set_columns (query_columns a tables scopes) (query_columns b tables scopes)
  columns-Union a b = ap (λ x. query_columns x tables scopes) (sym (q.rolls-Union a b)) ∙ of_layer (layer.Union a b)

  pub columns-Except : (a b : Query) → query_columns (q.Except a b) tables scopes ≡ set_columns (query_columns a tables scopes) (query_columns b tables scopes)
  columns-Except a b = ap (λ x. query_columns x tables scopes) (sym (q.rolls-Except a b)) ∙ of_layer (layer.Except a b)

  pub columns-Intersect : (a b : Query) → query_columns (q.Intersect a b) tables scopes ≡ set_columns (query_columns a tables scopes) (query_columns b tables scopes)
  columns-Intersect a b = ap (λ x. query_columns x tables scopes) (sym (q.rolls-Intersect a b)) ∙ of_layer (layer.Intersect a b)

  of_test : (x : Pred-F Pred Query) → pred_typed (roll-Pred x) tables scopes ≡ pred_typed_step (map-Pred Pred Query ConditionTest QueryColumns pred_typed query_columns x) tables scopes
  of_test x = ap (λ f. f tables scopes) (fold-roll-Pred ConditionTest QueryColumns pred_typed_step query_columns_step x)

  pub typed-Cmp : (op : Op) (a b : Expr) → pred_typed (p.Cmp op a b) tables scopes ≡ comparable (column_of a scopes) (column_of b scopes)
  typed-Cmp op a b = ap (λ x. pred_typed x tables scopes) (sym (p.rolls-Cmp op a b)) ∙ of_test (layer.Cmp op a b)

  pub typed-IsNull : (a : Expr) → pred_typed (p.IsNull a) tables scopes ≡ is_some (column_of a scopes)
  typed-IsNull a = ap (λ x. pred_typed x tables scopes) (sym (p.rolls-IsNull a)) ∙ of_test (layer.IsNull a)

  pub typed-OneOf : (e : Expr) (es : List Expr) → pred_typed (p.OneOf e es) tables scopes ≡ (is_some (column_of e scopes) && all_comparable (column_of e scopes) es scopes)
  typed-OneOf e es = ap (λ x. pred_typed x tables scopes) (sym (p.rolls-OneOf e es)) ∙ of_test (layer.OneOf e es)

  pub typed-And : (ps : List Pred) → pred_typed (p.And ps) tables scopes ≡ all_typed (map pred_typed ps) tables scopes
  typed-And ps = ap (λ x. pred_typed x tables scopes) (sym (p.rolls-And ps)) ∙ of_test (layer.And ps)

  pub typed-Or : (ps : List Pred) → pred_typed (p.Or ps) tables scopes ≡ all_typed (map pred_typed ps) tables scopes
  typed-Or ps = ap (λ x. pred_typed x tables scopes) (sym (p.rolls-Or ps)) ∙ of_test (layer.Or ps)

  pub typed-Not : (c : Pred) → pred_typed (p.Not c) tables scopes ≡ pred_typed c tables scopes
  typed-Not c = ap (λ x. pred_typed x tables scopes) (sym (p.rolls-Not c)) ∙ of_test (layer.Not c)

  pub typed-Exists : (a : Query) → pred_typed (p.Exists a) tables scopes ≡ is_some (query_columns a tables scopes)
  typed-Exists a = ap (λ x. pred_typed x tables scopes) (sym (p.rolls-Exists a)) ∙ of_test (layer.Exists a)

  pub typed-Member : (e : Expr) (a : Query) → pred_typed (p.Member e a) tables scopes ≡ comparable_member (column_of e scopes) (query_columns a tables scopes)
  typed-Member e a = ap (λ x. pred_typed x tables scopes) (sym (p.rolls-Member e a)) ∙ of_test (layer.Member e a)
