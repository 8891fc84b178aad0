-- Whether the columns of one operand can be divided by those of another.
use Rattle.std.specs.Prelude.{List, [], ◌∷◌, Option, Some, None, Result, Ok, Err}
use Rattle.rt_relation.specs.Columns.{Text, further_columns, if_fit, lacked}
use Rattle.rt_relation.specs.Fault.{◌>>=◌}
use Rattle.rt_relation.specs.Operators.{Answer, quotient}
use Rattle.rt_relation.specs.declared.column.Column.{Column}
use Rattle.rt_relation.specs.declared.relation.Relation.{Relation}
use Rattle.rt_ra_tree.specs.declared.fault.RaFault.{RaFault}
use Rattle.rt_ra_tree.specs.declared.fault.RaFault.TheVariants as fault

abbrev pub known : {A : Type 0} → Option Text → Result A RaFault → Result A RaFault
known None r = r
known (Some n) r = Err (fault.UnknownColumn n)

abbrev pub some_further : {A : Type 0} → List Column → Result A RaFault → Result A RaFault
some_further [] r = Err fault.Columns
some_further (c ∷ cs) r = r

-- each column of the divisor is known, the first has a further one, and the kinds fit
abbrev pub checked : List Column → List Column → Result (Unit {0}) RaFault
checked cs ds = known (lacked ds cs) (some_further (further_columns cs ds) (if_fit ds cs tt))

abbrev pub checked_quotient : Relation → Relation → Answer
checked_quotient t u = checked t.columns u.columns >>= λ x. Ok (quotient t u)
