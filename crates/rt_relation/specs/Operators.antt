-- What each operator of two operands becomes in the algebra over them, or its first error (Codd 1970;
-- the division and the semijoin as in Ramakrishnan and Gehrke 2003).
use Rattle.std.specs.Prelude.{ℕ, ◌+◌, ◌-◌, if◌then◌else◌, map, List, [], ◌∷◌, ◌++◌, length, Option, Some, None, Result, Ok, Err, replicate}
use Rattle.rt_algebra.specs.Parts.{combined, selected}
use Rattle.rt_algebra.specs.declared.expr.Expr.{Expr}
use Rattle.rt_algebra.specs.declared.expr.Expr.TheVariants as expr
use Rattle.rt_algebra.specs.declared.query.Pred.{Pred}
use Rattle.rt_algebra.specs.declared.query.Pred.TheVariants as pred
use Rattle.rt_algebra.specs.declared.query.Query.{Query}
use Rattle.rt_algebra.specs.declared.query.Query.TheVariants as query
use Rattle.rt_algebra.specs.declared.set_op.SetOp.{SetOp}
use Rattle.rt_algebra.specs.declared.set_op.SetOp.TheVariants as sets
use Rattle.rt_algebra.specs.declared.typed.Typed.{Typed}
use Rattle.rt_algebra.specs.TextColumns as columns
use Rattle.rt_value.specs.declared.value.Op.TheVariants.{Eq}
use Rattle.rt_relation.specs.Columns.{Text, further_columns, has, if_fit, lacked, names, place, shared, united_columns, unless_twice}
use Rattle.rt_relation.specs.Fault.{◌>>=◌}
use Rattle.rt_relation.specs.declared.column.Column.{Column}
use Rattle.rt_relation.specs.declared.relation.Relation.{Relation}
use Rattle.rt_ra_tree.specs.declared.fault.RaFault.{RaFault}
use Rattle.rt_ra_tree.specs.declared.fault.RaFault.TheVariants as fault
use Rattle.rt_ra_tree.specs.declared.tree.RaOp.{RaOp}
use Rattle.rt_ra_tree.specs.declared.tree.RaOp.TheVariants as op

abbrev pub Answer : Type 0
Answer = Result Relation RaFault

-- ---- columns as expressions

-- all columns, from number `at` on
abbrev pub own : ℕ → List Column → List Expr
own at [] = []
own at (c ∷ cs) = expr.Col 0 at ∷ own (at + 1) cs

-- those of the columns that the others have not, the first of all having the number `at`
abbrev pub further : ℕ → List Column → List Column → List Expr
further at [] others = []
further at (c ∷ cs) others = if has c.name (names others) then further (at + 1) cs others else expr.Col 0 at ∷ further (at + 1) cs others

-- the columns of these names
abbrev pub placed : List Text → List Column → List Expr
placed ns cs = map (λ n. expr.Col 0 (place n (names cs))) ns

-- ---- products and joins

-- the common columns are equal, in the order of the first: its row is `up` rows outward, and the
-- others' columns begin at number `start`
abbrev pub matching : ℕ → ℕ → ℕ → List Column → List Column → List Pred
matching up start at [] others = []
matching up start at (c ∷ cs) others =
    if has c.name (names others) then pred.Cmp Eq (expr.Col up at) (expr.Col 0 (start + place c.name (names others))) ∷ matching up start (at + 1) cs others
    else matching up start (at + 1) cs others

abbrev pub product : Query → Query → Query
product a b = query.Product (a ∷ b ∷ [])

abbrev pub cross : Relation → Relation → Answer
cross t u = unless_twice (shared u.columns t.columns) (record { query = product t.query u.query; columns = t.columns ++ u.columns })

abbrev pub joined : Relation → Relation → Relation
joined t u = record {
  query = query.Project (selected (product t.query u.query) (matching 0 (length t.columns) 0 t.columns u.columns)) (own 0 t.columns ++ further (length t.columns) u.columns t.columns);
  columns = t.columns ++ further_columns u.columns t.columns;
}

-- there is a row of the other that matches
abbrev pub matched : List Column → Relation → Pred
matched cs u = pred.Exists (selected u.query (matching 1 0 0 cs u.columns))

abbrev pub semi : Relation → Relation → Relation
semi t u = record { query = query.Select t.query (matched t.columns u); columns = t.columns }

abbrev pub anti : Relation → Relation → Relation
anti t u = record { query = query.Select t.query (pred.Not (matched t.columns u)); columns = t.columns }

-- the rows, filled up with NULL so often
abbrev pub with_null : Relation → ℕ → Query
with_null a n = query.Project a.query (own 0 a.columns ++ replicate n expr.Null)

-- the rows of both, those of the second filled up with NULL
abbrev pub filled : Relation → Relation → Relation
filled j a = record {
  query = query.Union j.query (with_null a (length j.columns - length a.columns));
  columns = j.columns;
}

-- ---- division

abbrev pub rest_of : Query → List Column → List Column → Query
rest_of of cs ds = query.Project of (further 0 cs ds)

abbrev pub pairs_of : Query → List Column → List Column → Query
pairs_of of cs ds = query.Project of (further 0 cs ds ++ placed (names ds) cs)

-- those of the first that are not with each row of the divisor
abbrev pub missing : Query → Query → Query → List Column → Query
missing rest pairs right cs = query.Project (query.Except (product rest right) pairs) (own 0 cs)

abbrev pub quotient : Relation → Relation → Relation
quotient t u = record {
  query = query.Except (rest_of t.query t.columns u.columns)
      (missing (rest_of t.query t.columns u.columns) (pairs_of t.query t.columns u.columns) u.query (further_columns t.columns u.columns));
  columns = further_columns t.columns u.columns;
}

abbrev pub if_further : List Column → Relation → Relation → Answer
if_further [] t u = Err fault.Columns
if_further (c ∷ cs) t u = if_fit u.columns t.columns (quotient t u)

abbrev pub unless_lacked : Option Text → Relation → Relation → Answer
unless_lacked (Some n) t u = Err (fault.UnknownColumn n)
unless_lacked None t u = if_further (further_columns t.columns u.columns) t u

abbrev pub divide : Relation → Relation → Answer
divide t u = unless_lacked (lacked u.columns t.columns) t u

-- ---- set operators

abbrev pub united : SetOp → Relation → Relation → Answer
united o t u = united_columns t.columns u.columns >>= λ cs. Ok (record { query = combined o t.query u.query; columns = cs })

-- ---- operators of two operands

abbrev pub two : RaOp → Relation → Relation → Answer
two op.Cross t u = cross t u
two op.Join t u = if_fit t.columns u.columns (joined t u)
two op.Semi t u = if_fit t.columns u.columns (semi t u)
two op.Anti t u = if_fit t.columns u.columns (anti t u)
two op.LeftJoin t u = if_fit t.columns u.columns (filled (joined t u) (anti t u))
two op.Divide t u = divide t u
two op.Union t u = united sets.Union t u
two op.Except t u = united sets.Except t u
two op.Intersect t u = united sets.Intersect t u

-- the query with the kinds, bounds and names of its columns
abbrev pub typed_of : Relation → Typed
typed_of r = columns.typed_of (λ c. c.kind) (λ c. c.bound) (λ c. Some c.name) r.query r.columns
