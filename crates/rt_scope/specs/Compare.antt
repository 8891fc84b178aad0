-- Comparisons and lists, and when their kinds fit (ISO/IEC 9075-2, comparison predicate, in
-- predicate).
use Rattle.std.specs.Prelude.{Bool, List, [], ◌∷◌, ◌++◌, Option, Result, Ok, Err, if◌then◌else◌}
use Rattle.rt_schema.specs.Schema.{kinds_match}
use Rattle.rt_algebra.specs.declared.expr.Expr.{Expr}
use Rattle.rt_algebra.specs.declared.query.Pred.{Pred}
use Rattle.rt_algebra.specs.declared.query.Pred.TheVariants as p
use Rattle.rt_schema.specs.declared.table.ColKind.{ColKind}
use Rattle.rt_scope.specs.Fault.{◌>>=◌}
use Rattle.rt_scope.specs.Lookup.{Scopes}
use Rattle.rt_scope.specs.Sums.{sum}
use Rattle.rt_scope.specs.declared.fault.NameFault.{NameFault}
use Rattle.rt_scope.specs.declared.fault.NameFault.TheVariants.{TypeMismatch}
use Rattle.rt_scope.specs.declared.scalar.Scalar.{Scalar}
use Rattle.rt_tree.specs.declared.tree.Sum.{Sum}
use Rattle.rt_value.specs.declared.value.Op.{Op}

abbrev pub compared : Op → Scalar → Scalar → Result Pred NameFault
compared o x y = if kinds_match x.kind y.kind then Ok (p.Cmp o x.expr y.expr) else Err TypeMismatch

abbrev pub negated : Bool → Pred → Pred
negated n c = if n then p.Not c else c

abbrev pub listed_one : Option ColKind → List Expr → Scalar → Result (List Expr) NameFault
listed_one k es y = if kinds_match k y.kind then Ok (es ++ y.expr ∷ []) else Err TypeMismatch

-- the members of a list after those so far, to be compared with an expression of the kind
abbrev pub listed : Option ColKind → List Expr → List Sum → Scopes → Result (List Expr) NameFault
listed k es [] scopes = Ok es
listed k es (s ∷ ss) scopes = sum s scopes >>= λ y. listed_one k es y >>= λ more. listed k more ss scopes
