-- No value is larger than its bound, and arithmetic modulo 2^128 is exact.
use Rattle.std.proofs.Common.{◌≡◌, ℕ, zero, suc, ◌+◌, ◌-◌, ◌*◌, ◌^◌, ◌≤◌, Bool, true, false, List, [], ◌∷◌, map, Option, None, Some, ℤ, pos, ◌+ℤ◌, ◌*ℤ◌, neg_ℤ, cond, subst, ap, ◌∙◌, refl, arith, slice_get, slice_index_or}
use Rattle.std.specs.Prelude.{unsigned_abs, nat_le, FitsSigned, if◌then◌else◌}
use Rattle.std.specs.Int.{w128}
use Rattle.std.specs.Option.{option_and_then}
use Rattle.std.proofs.lemmas.Bool.Decides.{nat_tests}
use Rattle.std.proofs.lemmas.Int.{ints, unsigned_abs-mul, int_wrap_fits}
use Rattle.std.proofs.Math.Nat.{mul-le-mul}
use Rattle.rt_value.specs.declared.value.Value.{Value}
use Rattle.rt_value.specs.declared.value.Value.TheVariants as v
use Rattle.rt_schema.specs.declared.table.ColKind.{ColKind}
use Rattle.rt_schema.specs.declared.table.ColKind.TheVariants.{Whole, Text as Texts}
use Rattle.rt_algebra.specs.Expression.{Env, exact, wrapped, add_value, mul_value, neg_value, sum_from, mul_from, cell_of, value_by, term_by, expr_step, term_step}
use Rattle.rt_algebra.specs.Columns.{Column, Columns, Scopes, column_at, kind_bound, member_bound, step_bound, sum_bound, mul_bound, whole_column, column_of, term_column, expr_column_step, term_column_step}
use Rattle.rt_algebra.specs.Within.{Within, RowWithin, EnvWithin}
use Rattle.rt_algebra.specs.declared.expr.Expr.{Expr}
use Rattle.rt_algebra.specs.declared.expr.Term.{Term}
use Rattle.rt_algebra.specs.declared.expr.Expr.TheOpen.{Expr-F, Term-F, Col, Int, Text, Null, Sum, Mul}
use Rattle.rt_algebra.specs.declared.expr.Expr.TheViews.{roll-Expr, roll-Term}
use Rattle.rt_algebra.specs.declared.expr.Expr.TheFolds.{fold-roll-Expr, fold-roll-Term, ind-Expr, map-Expr, map-Term}

-- numbers
abs_add : (x y : ℤ) → unsigned_abs (x +ℤ y) ≤ unsigned_abs x + unsigned_abs y
abs_add x y = grind (arith, ints)

abs_neg : (x : ℤ) → unsigned_abs (neg_ℤ x) ≡ unsigned_abs x
abs_neg x = grind (arith, ints)

small_fits : (x : ℤ) → unsigned_abs x ≤ 2 ^ 127 - 1 → FitsSigned w128 x
small_fits x h = grind (arith, ints)

wrapped_small : (x : ℤ) → unsigned_abs x ≤ 2 ^ 127 - 1 → wrapped x ≡ x
wrapped_small x h = int_wrap_fits w128 x (small_fits x h)

-- values
add_within : (x y : Value) (a b : ℕ) → Within x a → Within y b → Within (add_value exact x y) (a + b)
add_within (v.Int x) (v.Int y) a b p q = omega (arith, abs_add x y)
add_within (v.Int x) v.Null a b p q = tt
add_within (v.Int x) (v.Text t) a b p q = tt
add_within v.Null y a b p q = tt
add_within (v.Text t) y a b p q = tt

mul_within : (x y : Value) (a b : ℕ) → Within x a → Within y b → Within (mul_value exact x y) (a * b)
mul_within (v.Int x) (v.Int y) a b p q = rw unsigned_abs-mul (mul-le-mul p q)
mul_within (v.Int x) v.Null a b p q = tt
mul_within (v.Int x) (v.Text t) a b p q = tt
mul_within v.Null y a b p q = tt
mul_within (v.Text t) y a b p q = tt

neg_within : (x : Value) (a : ℕ) → Within x a → Within (neg_value exact x) a
neg_within (v.Int x) a p = rw abs_neg p
neg_within v.Null a p = tt
neg_within (v.Text t) a p = tt

add_same : (x y : Value) (n : ℕ) → n ≤ 2 ^ 127 - 1 → Within (add_value exact x y) n → add_value wrapped x y ≡ add_value exact x y
add_same (v.Int x) (v.Int y) n h p = ap v.Int (wrapped_small (x +ℤ y) (omega arith))
add_same (v.Int x) v.Null n h p = refl
add_same (v.Int x) (v.Text t) n h p = refl
add_same v.Null y n h p = refl
add_same (v.Text t) y n h p = refl

mul_same : (x y : Value) (n : ℕ) → n ≤ 2 ^ 127 - 1 → Within (mul_value exact x y) n → mul_value wrapped x y ≡ mul_value exact x y
mul_same (v.Int x) (v.Int y) n h p = ap v.Int (wrapped_small (x *ℤ y) (omega arith))
mul_same (v.Int x) v.Null n h p = refl
mul_same (v.Int x) (v.Text t) n h p = refl
mul_same v.Null y n h p = refl
mul_same (v.Text t) y n h p = refl

neg_same : (x : Value) (n : ℕ) → n ≤ 2 ^ 127 - 1 → Within x n → neg_value wrapped x ≡ neg_value exact x
neg_same (v.Int x) n h p = let e = abs_neg x in ap v.Int (wrapped_small (neg_ℤ x) (omega (arith, e)))
neg_same v.Null n h p = refl
neg_same (v.Text t) n h p = refl

-- the claims on an expression, a member of a sum, and a bound so far: the exact value is within
-- the bound, and the value modulo 2^128 is the same
abbrev pub IsColumn : Value → Value → Option Column → Type 0
IsColumn x w None = Unit {0}
IsColumn x w (Some c) = Within x c.bound × (w ≡ x)

abbrev IsMember : Value → Value → Option Column → Type 0
IsMember x w None = Unit {0}
IsMember x w (Some c) = Within x c.bound × (c.bound ≤ 2 ^ 127 - 1 → w ≡ x)

abbrev IsBound : Value → Value → Option ℕ → Type 0
IsBound x w None = Unit {0}
IsBound x w (Some b) = Within x b × (w ≡ x)

abbrev pub ExprLaw : Expr → Type 0
ExprLaw e = (scopes : Scopes) (env : Env) → EnvWithin env scopes → IsColumn (value_by exact e env) (value_by wrapped e env) (column_of e scopes)

abbrev TermLaw : Term → Type 0
TermLaw t = (scopes : Scopes) (env : Env) → EnvWithin env scopes → IsMember (term_by exact t env) (term_by wrapped t env) (term_column t scopes)

abbrev SuchExpr : Type 0
SuchExpr = (e : Expr) × ExprLaw e

abbrev SuchTerm : Type 0
SuchTerm = (t : Term) × TermLaw t

abbrev exprs : List SuchExpr → List Expr
exprs es = map (λ e. e.0) es

abbrev terms : List SuchTerm → List Term
terms ts = map (λ t. t.0) ts

whole : (x w : Value) (o : Option ℕ) → IsBound x w o → IsColumn x w (whole_column o)
whole x w None p = tt
whole x w (Some b) p = p

-- one step of a sum and of a product, then the others by `rest`
sum_step : (x y w : Value) (a : ℕ) (o : Option Column) → Within x a → IsMember y w o
    → (more : Value → Value) (more' : Value → Value) (bound : ℕ → Option ℕ)
    → ((z : Value) (n : ℕ) → Within z n → IsBound (more z) (more' z) (bound n))
    → IsBound (more (add_value exact x y)) (more' (add_value wrapped x w)) (option_and_then (λ b. option_and_then (λ n. bound n) (step_bound (a + b))) (member_bound o))
sum_step x y w a None p q more more' bound rest = tt
sum_step x y w a (Some c) p q more more' bound rest = go c.kind
  where
    small : (b : Bool) → b ≡ nat_le (a + c.bound) (2 ^ 127 - 1) → IsBound (more (add_value exact x y)) (more' (add_value wrapped x w)) (option_and_then (λ n. bound n) (if b then Some (a + c.bound) else None))
    small false e = tt
    small true e =
        let le : a + c.bound ≤ 2 ^ 127 - 1 = grind (arith, nat_tests) in
        let same : w ≡ y = q.1 (omega arith) in
        let within = add_within x y a c.bound p q.0 in
        let step : add_value wrapped x w ≡ add_value exact x y = ap (λ (z : Value). add_value wrapped x z) same ∙ add_same x y (a + c.bound) le within in
        rw step (rest (add_value exact x y) (a + c.bound) within)

    go : (k : Option ColKind) → IsBound (more (add_value exact x y)) (more' (add_value wrapped x w)) (option_and_then (λ b. option_and_then (λ n. bound n) (step_bound (a + b))) (kind_bound k c.bound))
    go None = small (nat_le (a + c.bound) (2 ^ 127 - 1)) refl
    go (Some Whole) = small (nat_le (a + c.bound) (2 ^ 127 - 1)) refl
    go (Some Texts) = tt

mul_step : (x y w : Value) (a : ℕ) (o : Option Column) → Within x a → IsColumn y w o
    → (more : Value → Value) (more' : Value → Value) (bound : ℕ → Option ℕ)
    → ((z : Value) (n : ℕ) → Within z n → IsBound (more z) (more' z) (bound n))
    → IsBound (more (mul_value exact x y)) (more' (mul_value wrapped x w)) (option_and_then (λ b. option_and_then (λ n. bound n) (step_bound (a * b))) (member_bound o))
mul_step x y w a None p q more more' bound rest = tt
mul_step x y w a (Some c) p q more more' bound rest = go c.kind
  where
    small : (b : Bool) → b ≡ nat_le (a * c.bound) (2 ^ 127 - 1) → IsBound (more (mul_value exact x y)) (more' (mul_value wrapped x w)) (option_and_then (λ n. bound n) (if b then Some (a * c.bound) else None))
    small false e = tt
    small true e =
        let le : a * c.bound ≤ 2 ^ 127 - 1 = grind (arith, nat_tests) in
        let within = mul_within x y a c.bound p q.0 in
        let step : mul_value wrapped x w ≡ mul_value exact x y = ap (λ (z : Value). mul_value wrapped x z) q.1 ∙ mul_same x y (a * c.bound) le within in
        rw step (rest (mul_value exact x y) (a * c.bound) within)

    go : (k : Option ColKind) → IsBound (more (mul_value exact x y)) (more' (mul_value wrapped x w)) (option_and_then (λ b. option_and_then (λ n. bound n) (step_bound (a * b))) (kind_bound k c.bound))
    go None = small (nat_le (a * c.bound) (2 ^ 127 - 1)) refl
    go (Some Whole) = small (nat_le (a * c.bound) (2 ^ 127 - 1)) refl
    go (Some Texts) = tt

module _ (scopes : Scopes) (env : Env) (w : EnvWithin env scopes) where
  sum_law : (ts : List SuchTerm) (x : Value) (a : ℕ) → Within x a
      → IsBound (sum_from exact x (map (term_by exact) (terms ts)) env) (sum_from wrapped x (map (term_by wrapped) (terms ts)) env) (sum_bound a (map term_column (terms ts)) scopes)
  sum_law [] x a h = (h, refl)
  sum_law (t ∷ ts) x a h = sum_step x (term_by exact t.0 env) (term_by wrapped t.0 env) a (term_column t.0 scopes) h (t.1 scopes env w)
      (λ z. sum_from exact z (map (term_by exact) (terms ts)) env) (λ z. sum_from wrapped z (map (term_by wrapped) (terms ts)) env)
      (λ n. sum_bound n (map term_column (terms ts)) scopes) (λ z n p. sum_law ts z n p)

  mul_law : (es : List SuchExpr) (x : Value) (a : ℕ) → Within x a
      → IsBound (mul_from exact x (map (value_by exact) (exprs es)) env) (mul_from wrapped x (map (value_by wrapped) (exprs es)) env) (mul_bound a (map column_of (exprs es)) scopes)
  mul_law [] x a h = (h, refl)
  mul_law (e ∷ es) x a h = mul_step x (value_by exact e.0 env) (value_by wrapped e.0 env) a (column_of e.0 scopes) h (e.1 scopes env w)
      (λ z. mul_from exact z (map (value_by exact) (exprs es)) env) (λ z. mul_from wrapped z (map (value_by wrapped) (exprs es)) env)
      (λ n. mul_bound n (map column_of (exprs es)) scopes) (λ z n p. mul_law es z n p)

-- a column of a row in scope
cell_law : (row : List Value) (cs : Columns) → RowWithin row cs → (at : ℕ) → IsColumn (slice_index_or row at v.Null) (slice_index_or row at v.Null) (slice_get cs at)
cell_law [] [] p at = tt
cell_law [] (c ∷ cs) p at = absurd p
cell_law (x ∷ row) [] p at = absurd p
cell_law (x ∷ row) (c ∷ cs) p zero = (p.0, refl)
cell_law (x ∷ row) (c ∷ cs) p (suc at) = cell_law row cs p.1 at

col_law : (env : Env) (scopes : Scopes) → EnvWithin env scopes → (up at : ℕ) → IsColumn (cell_of env up at) (cell_of env up at) (column_at (slice_get scopes up) at)
col_law [] [] w up at = tt
col_law [] (cs ∷ scopes) w up at = absurd w
col_law (row ∷ env) [] w up at = absurd w
col_law (row ∷ env) (cs ∷ scopes) w zero at = cell_law row cs w.0 at
col_law (row ∷ env) (cs ∷ scopes) w (suc up) at = col_law env scopes w.1 up at

abbrev below_expr : Expr-F SuchExpr SuchTerm → Expr-F Expr Term
below_expr = map-Expr SuchExpr SuchTerm Expr Term (λ e. e.0) (λ t. t.0)

-- one layer, with the claims for its members
layer : (y : Expr-F SuchExpr SuchTerm) (scopes : Scopes) (env : Env) → EnvWithin env scopes
    → IsColumn (expr_step exact (map-Expr Expr Term (Env → Value) (Env → Value) (value_by exact) (term_by exact) (below_expr y)) env)
    (expr_step wrapped (map-Expr Expr Term (Env → Value) (Env → Value) (value_by wrapped) (term_by wrapped) (below_expr y)) env)
    (expr_column_step (map-Expr Expr Term (Scopes → Option Column) (Scopes → Option Column) column_of term_column (below_expr y)) scopes)
layer (Col up at) scopes env w = col_law env scopes w up at
layer (Int n) scopes env w = (omega arith, refl)
layer (Text t) scopes env w = (tt, refl)
layer Null scopes env w = (tt, refl)
layer (Sum ts) scopes env w = whole _ _ _ (sum_law scopes env w ts (v.Int (pos 0)) 0 (omega arith))
layer (Mul es) scopes env w = whole _ _ _ (mul_law scopes env w es (v.Int (pos 1)) 1 (omega arith))

expr_rolls : (x : Expr-F Expr Term) → ((scopes : Scopes) (env : Env) → EnvWithin env scopes
    → IsColumn (expr_step exact (map-Expr Expr Term (Env → Value) (Env → Value) (value_by exact) (term_by exact) x) env)
    (expr_step wrapped (map-Expr Expr Term (Env → Value) (Env → Value) (value_by wrapped) (term_by wrapped) x) env)
    (expr_column_step (map-Expr Expr Term (Scopes → Option Column) (Scopes → Option Column) column_of term_column x) scopes))
    → ExprLaw (roll-Expr x)
expr_rolls x h scopes env w =
    let e = fold-roll-Expr (Env → Value) (Env → Value) (expr_step exact) (term_step exact) x in
    let f = fold-roll-Expr (Env → Value) (Env → Value) (expr_step wrapped) (term_step wrapped) x in
    let d = fold-roll-Expr (Scopes → Option Column) (Scopes → Option Column) expr_column_step term_column_step x in
    rw (e, f, d) (h scopes env w)

signed : (minus : Bool) (x w : Value) (o : Option Column) → IsColumn x w o → IsMember (cond minus (neg_value exact x) x) (cond minus (neg_value wrapped w) w) o
signed minus x w None p = tt
signed true x w (Some c) p = (neg_within x c.bound p.0, λ small. rw p.1 (neg_same x c.bound small p.0))
signed false x w (Some c) p = (p.0, λ small. p.1)

term_rolls : (y : Term-F SuchExpr SuchTerm) → TermLaw (roll-Term (map-Term SuchExpr SuchTerm Expr Term (λ e. e.0) (λ t. t.0) y))
term_rolls y scopes env w =
    let x : Term-F Expr Term = map-Term SuchExpr SuchTerm Expr Term (λ e. e.0) (λ t. t.0) y in
    let e = fold-roll-Term (Env → Value) (Env → Value) (expr_step exact) (term_step exact) x in
    let f = fold-roll-Term (Env → Value) (Env → Value) (expr_step wrapped) (term_step wrapped) x in
    let d = fold-roll-Term (Scopes → Option Column) (Scopes → Option Column) expr_column_step term_column_step x in
    rw (e, f, d) (signed y.minus (value_by exact y.of.0 env) (value_by wrapped y.of.0 env) (column_of y.of.0 scopes) (y.of.1 scopes env w))

pub expr_law : (e : Expr) → ExprLaw e
expr_law = ind-Expr ExprLaw TermLaw
    (λ x y is. subst (λ z. ExprLaw (roll-Expr z)) is (expr_rolls (below_expr y) (layer y)))
    (λ x y is. subst (λ z. TermLaw (roll-Term z)) is (term_rolls y))
