-- Conditions without a subquery, and lists of conditions (ISO/IEC 9075-2, search condition).
use Rattle.std.specs.Prelude.{Bool, List, [], ◌∷◌, ◌++◌, Some, Result, Ok, Err, if◌then◌else◌}
use Rattle.rt_schema.specs.Schema.{kinds_match}
use Rattle.rt_algebra.specs.declared.query.Pred.{Pred}
use Rattle.rt_algebra.specs.declared.query.Pred.TheVariants as p
use Rattle.rt_algebra.specs.declared.query.Query.{Query}
use Rattle.rt_scope.specs.declared.condition.Members.{Members}
use Rattle.rt_scope.specs.declared.relation.Relation.{Relation}
use Rattle.rt_scope.specs.Compare.{compared, listed, negated}
use Rattle.rt_scope.specs.Fault.{◌>>=◌}
use Rattle.rt_scope.specs.Lookup.{Scopes}
use Rattle.rt_scope.specs.Sums.{sum}
use Rattle.rt_scope.specs.declared.column.Column.{Column}
use Rattle.rt_scope.specs.declared.fault.NameFault.{NameFault}
use Rattle.rt_scope.specs.declared.fault.NameFault.TheVariants as fault
use Rattle.rt_scope.specs.declared.scalar.Scalar.{Scalar}
use Rattle.rt_tree.specs.declared.tree.Op.{Op as OpTree}
use Rattle.rt_tree.specs.declared.tree.Op.TheVariants as of
use Rattle.rt_tree.specs.declared.tree.Sum.{Sum}
use Rattle.rt_value.specs.declared.value.Op.{Op}
use Rattle.rt_value.specs.declared.value.Op.TheVariants as op

abbrev pub op_of : OpTree → Op
op_of of.Eq = op.Eq
op_of of.Ne = op.Ne
op_of of.Lt = op.Lt
op_of of.Le = op.Le
op_of of.Gt = op.Gt
op_of of.Ge = op.Ge

abbrev pub comparison : Sum → OpTree → Sum → Scopes → Result Pred NameFault
comparison a o b scopes = sum a scopes >>= λ x. sum b scopes >>= λ y. compared (op_of o) x y

abbrev pub null_test : Sum → Bool → Scopes → Result Pred NameFault
null_test a n scopes = sum a scopes >>= λ x. Ok (negated n (p.IsNull x.expr))

-- each member is tested as soon as it is walked
abbrev pub list_test : Sum → Bool → Sum → List Sum → Scopes → Result Pred NameFault
list_test a n head tail scopes = sum a scopes >>= λ x. listed x.kind [] (head ∷ tail) scopes >>= λ es. Ok (negated n (p.OneOf x.expr es))

abbrev pub both : Pred → Pred → Pred
both low high = p.And (low ∷ high ∷ [])

-- the first with the second, then the first with the third
abbrev pub between : Scalar → Scalar → Scalar → Result Pred NameFault
between x low high = compared op.Ge x low >>= λ a. compared op.Le x high >>= λ b. Ok (both a b)

abbrev pub between_test : Sum → Bool → Sum → Sum → Scopes → Result Pred NameFault
between_test a n b c scopes = sum a scopes >>= λ x. sum b scopes >>= λ y. sum c scopes >>= λ z. between x y z >>= λ c. Ok (negated n c)

-- whether the expression is among the rows of a query of one column
abbrev pub member_in : Scalar → Query → List Column → Result Pred NameFault
member_in x of [] = Err fault.Columns
member_in x of (c ∷ []) = if kinds_match x.kind (Some c.kind) then Ok (p.Member x.expr of) else Err fault.TypeMismatch
member_in x of (c ∷ d ∷ rest) = Err fault.Columns

abbrev pub member : Scalar → Relation → Result Pred NameFault
member x r = member_in x r.query r.columns

-- ---- lists of conditions

abbrev pub one_more : Members → Pred → Members
one_more all c = record { conds = all.conds ++ c ∷ [] }

abbrev pub only : Pred → Members
only c = record { conds = c ∷ [] }
