-- Tests of rows: what they become in the algebra, or their first error.
use Rattle.std.specs.Prelude.{ℕ, ℤ, Bool, true, false, if◌then◌else◌, List, [], ◌∷◌, ◌++◌, Result, Ok, Err}
use Rattle.rt_algebra.specs.declared.expr.Expr.{Expr}
use Rattle.rt_algebra.specs.declared.expr.Expr.TheVariants as expr
use Rattle.rt_algebra.specs.declared.expr.Term.{roll-Term}
use Rattle.rt_algebra.specs.declared.query.Pred.{Pred}
use Rattle.rt_algebra.specs.declared.query.Pred.TheVariants as pred
use Rattle.rt_schema.specs.Schema.{kind_eq}
use Rattle.rt_schema.specs.declared.table.ColKind.TheVariants.{Whole, Text as Texts}
use Rattle.rt_value.specs.declared.value.Op.{Op}
use Rattle.rt_relation.specs.Columns.{column_at, names, place}
use Rattle.rt_relation.specs.Fault.{◌>>=◌}
use Rattle.rt_relation.specs.declared.column.Column.{Column}
use Rattle.rt_ra.specs.declared.scalar.Scalar.{Scalar}
use Rattle.rt_ra_tree.specs.declared.fault.RaFault.{RaFault}
use Rattle.rt_ra_tree.specs.declared.fault.RaFault.TheVariants as fault
use Rattle.rt_ra_tree.specs.declared.tree.RaSide.{RaSide}
use Rattle.rt_ra_tree.specs.declared.tree.RaSide.TheVariants as side_
use Rattle.rt_ra_tree.specs.declared.tree.RaTest.{RaTest}
use Rattle.rt_ra_tree.specs.declared.tree.RaTest.TheVariants as test_

abbrev pub column_scalar : ℕ → Column → Scalar
column_scalar at c = record { expr = expr.Col 0 at; kind = c.kind }

-- a minus is a sum of one term
abbrev pub number : Bool → ℤ → Expr
number true n = expr.Sum (roll-Term (record { minus = true; of = expr.Int n }) ∷ [])
number false n = expr.Int n

abbrev pub side : List Column → RaSide → Result Scalar RaFault
side cs (side_.Col n) = column_at n.text cs >>= λ c. Ok (column_scalar (place n.text (names cs)) c)
side cs (side_.Number m n) = Ok (record { expr = number m n; kind = Whole })
side cs (side_.Str t) = Ok (record { expr = expr.Text t; kind = Texts })

abbrev pub compared : Op → Scalar → Scalar → Result Pred RaFault
compared o x y = if kind_eq x.kind y.kind then Ok (pred.Cmp o x.expr y.expr) else Err fault.TypeMismatch

abbrev pub negated : Bool → Pred → Pred
negated true c = pred.Not c
negated false c = c

abbrev pub test : List Column → RaTest → Result Pred RaFault
test cs (test_.Cmp o a b) = side cs a >>= λ x. side cs b >>= λ y. compared o x y
test cs (test_.IsNull n b) = column_at n.text cs >>= λ c. Ok (negated b (pred.IsNull (expr.Col 0 (place n.text (names cs)))))

-- the tests from the left, after the conditions so far
abbrev pub tests : List Pred → List Column → List RaTest → Result (List Pred) RaFault
tests all cs [] = Ok all
tests all cs (t ∷ ts) = test cs t >>= λ c. tests (all ++ c ∷ []) cs ts
