-- What an expression gives under the rows in scope (ISO/IEC 9075-2, numeric value expression:
-- NULL where a member is NULL).
use Rattle.std.specs.Prelude.{ℕ, ℤ, pos, ◌+ℤ◌, ◌*ℤ◌, neg_ℤ, cond, List, [], ◌∷◌, slice_index_or}
use Rattle.std.specs.Int.{int_wrap, w128}
use Rattle.rt_value.specs.declared.value.Value.{Value}
use Rattle.rt_value.specs.declared.value.Value.TheVariants as v
use Rattle.rt_algebra.specs.declared.expr.Expr.{Expr}
use Rattle.rt_algebra.specs.declared.expr.Term.{Term}
use Rattle.rt_algebra.specs.declared.expr.Expr.TheOpen.{Expr-F, Term-F, Col, Int, Text, Null, Sum, Mul}
use Rattle.rt_algebra.specs.declared.expr.Expr.TheFolds.{fold-Expr, fold-Term}

-- the rows in scope, innermost first
abbrev pub Env : Type 0
Env = List (List Value)

-- what a step of arithmetic makes of the number that it computes: the number itself, or the
-- number modulo 2^128
abbrev pub exact : ℤ → ℤ
exact n = n

abbrev pub wrapped : ℤ → ℤ
wrapped n = int_wrap w128 n

abbrev pub add_value : (ℤ → ℤ) → Value → Value → Value
add_value fit (v.Int x) (v.Int y) = v.Int (fit (x +ℤ y))
add_value fit _ _ = v.Null

abbrev pub mul_value : (ℤ → ℤ) → Value → Value → Value
mul_value fit (v.Int x) (v.Int y) = v.Int (fit (x *ℤ y))
mul_value fit _ _ = v.Null

abbrev pub neg_value : (ℤ → ℤ) → Value → Value
neg_value fit (v.Int x) = v.Int (fit (neg_ℤ x))
neg_value fit v.Null = v.Null
neg_value fit (v.Text t) = v.Null

-- from the left: `sum` so far and the members, `product` so far and the members
abbrev pub sum_from : (ℤ → ℤ) → Value → List (Env → Value) → Env → Value
sum_from fit sum [] env = sum
sum_from fit sum (f ∷ fs) env = sum_from fit (add_value fit sum (f env)) fs env

abbrev pub mul_from : (ℤ → ℤ) → Value → List (Env → Value) → Env → Value
mul_from fit product [] env = product
mul_from fit product (f ∷ fs) env = mul_from fit (mul_value fit product (f env)) fs env

-- value `at` of the row `up` rows outward
abbrev pub cell_of : Env → ℕ → ℕ → Value
cell_of env up at = slice_index_or (slice_index_or env up []) at v.Null

-- an expression whose members have been given their values
abbrev pub expr_step : (ℤ → ℤ) → Expr-F (Env → Value) (Env → Value) → Env → Value
expr_step fit (Col up at) env = cell_of env up at
expr_step fit (Int n) env = v.Int n
expr_step fit (Text t) env = v.Text t
expr_step fit Null env = v.Null
expr_step fit (Sum ts) env = sum_from fit (v.Int (pos 0)) ts env
expr_step fit (Mul es) env = mul_from fit (v.Int (pos 1)) es env

abbrev pub term_step : (ℤ → ℤ) → Term-F (Env → Value) (Env → Value) → Env → Value
term_step fit t env = cond t.minus (neg_value fit (t.of env)) (t.of env)

abbrev pub value_by : (ℤ → ℤ) → Expr → Env → Value
value_by fit = fold-Expr (Env → Value) (Env → Value) (expr_step fit) (term_step fit)

abbrev pub term_by : (ℤ → ℤ) → Term → Env → Value
term_by fit = fold-Term (Env → Value) (Env → Value) (expr_step fit) (term_step fit)

-- the value of an expression
abbrev pub value_of : Expr → Env → Value
value_of = value_by exact

-- the row of the values of several expressions
abbrev pub row_by : (ℤ → ℤ) → List Expr → Env → List Value
row_by fit [] env = []
row_by fit (e ∷ es) env = value_by fit e env ∷ row_by fit es env

abbrev pub row_of : List Expr → Env → List Value
row_of = row_by exact
