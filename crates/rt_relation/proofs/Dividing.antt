-- Division is the test of the columns, and then the quotient.
use Rattle.std.proofs.Common.{◌≡◌, Bool, true, false, List, [], ◌∷◌, Option, Some, None, Ok, Err, refl}
use Rattle.std.specs.Prelude.{if◌then◌else◌}
use Rattle.rt_relation.specs.Columns.{Text, common_fit, further_columns, if_fit, lacked}
use Rattle.rt_relation.specs.Divisor.{checked, known, some_further}
use Rattle.rt_relation.specs.Fault.{◌>>=◌}
use Rattle.rt_relation.specs.Operators.{divide, if_further, quotient, unless_lacked}
use Rattle.rt_relation.specs.declared.column.Column.{Column}
use Rattle.rt_relation.specs.declared.relation.Relation.{Relation}
use Rattle.rt_ra_tree.specs.declared.fault.RaFault.TheVariants as fault

module _ (t u : Relation) where
  fit-is : (b : Bool) → (if b then Ok (quotient t u) else Err fault.TypeMismatch) ≡ ((if b then Ok tt else Err fault.TypeMismatch) >>= λ (x : Unit {0}). Ok (quotient t u))
  fit-is true = refl
  fit-is false = refl

  further-is : (fs : List Column) → if_further fs t u ≡ (some_further fs (if_fit u.columns t.columns tt) >>= λ (x : Unit {0}). Ok (quotient t u))
  further-is [] = refl
  further-is (f ∷ fs) = fit-is (common_fit u.columns t.columns)

  known-is : (o : Option Text) → unless_lacked o t u ≡ (known o (some_further (further_columns t.columns u.columns) (if_fit u.columns t.columns tt)) >>= λ (x : Unit {0}). Ok (quotient t u))
  known-is None = further-is (further_columns t.columns u.columns)
  known-is (Some n) = refl

  pub divide_is : divide t u ≡ (checked t.columns u.columns >>= λ (x : Unit {0}). Ok (quotient t u))
  divide_is = known-is (lacked u.columns t.columns)
