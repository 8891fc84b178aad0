-- Tables and set operators: their columns, and when their operands fit (ISO/IEC 9075-2, table
-- reference, query expression).
use Rattle.std.specs.Prelude.{ℕ, ◌+◌, ◌==◌, Bool, true, false, length, List, [], ◌∷◌, Option, Some, None, Result, Ok, Err, if◌then◌else◌}
use Rattle.std.specs.Str.{bytes_eq}
use Rattle.rt_algebra.specs.Parts.{combined}
use Rattle.rt_algebra.specs.TextColumns as columns
use Rattle.rt_algebra.specs.declared.query.Query.TheVariants as q
use Rattle.rt_algebra.specs.declared.set_op.SetOp.{SetOp}
use Rattle.rt_algebra.specs.declared.set_op.SetOp.TheVariants as op
use Rattle.rt_algebra.specs.declared.typed.Typed.{Typed}
use Rattle.rt_scope.specs.declared.relation.Relation.{Relation}
use Rattle.rt_scope.specs.declared.relation.TableRef.{TableRef}
use Rattle.rt_schema.specs.declared.table.Column.{Column as TableColumn}
use Rattle.rt_schema.specs.declared.table.Table.{Table}
use Rattle.rt_scope.specs.Columns.{bounded, called}
use Rattle.rt_scope.specs.Fault.{◌>>=◌}
use Rattle.rt_scope.specs.Lookup.{Text}
use Rattle.rt_scope.specs.declared.column.Column.{Column}
use Rattle.rt_scope.specs.declared.fault.NameFault.{NameFault}
use Rattle.rt_scope.specs.declared.fault.NameFault.TheVariants as fault
use Rattle.rt_tree.specs.declared.tree.Alias.{Alias}

abbrev pub Tables : Type 0
Tables = List Table

-- the query with the kinds, bounds and names of its columns
abbrev pub typed_of : Relation → Typed
typed_of r = columns.typed_of (λ c. c.kind) (λ c. c.bound) (λ c. c.name) r.query r.columns

-- ---- tables

abbrev pub table_columns : List TableColumn → List Column
table_columns cs = columns.table_columns called cs

abbrev pub table_ref : Text → ℕ → Table → TableRef
table_ref name at t = record { name = name; relation = record { query = q.Table at; columns = table_columns t.columns } }

-- the table of the name, the first of all having the number `at`
abbrev pub table_named : Text → Text → ℕ → Tables → Result TableRef NameFault
table_named table name at [] = Err (fault.UnknownTable table)
table_named table name at (t ∷ ts) = if bytes_eq t.name table then Ok (table_ref name at t) else table_named table name (at + 1) ts

-- a source has its alias as its name, or else the table's
abbrev pub alias_or : Option Alias → Text → Text
alias_or None name = name
alias_or (Some a) name = a.name.text

-- ---- set operators

-- the first operand's names, and the greater bounds
abbrev pub widened : List Column → List Column → List Column
widened cs ds = columns.widened (λ c. c.bound) bounded cs ds

abbrev pub same_kinds : List Column → List Column → Bool
same_kinds cs ds = columns.same_kinds (λ c. c.kind) cs ds

-- the columns of two operands: Columns first, then TypeMismatch
abbrev pub united_columns : List Column → List Column → Result (List Column) NameFault
united_columns cs ds =
    if length cs == length ds then (if same_kinds cs ds then Ok (widened cs ds) else Err fault.TypeMismatch)
    else Err fault.Columns

-- an operator over operands whose columns fit
abbrev pub related : SetOp → Relation → Relation → Result Relation NameFault
related o t u = united_columns t.columns u.columns >>= λ columns. Ok (record { query = combined o t.query u.query; columns = columns })

abbrev pub intersected : Relation → Relation → Result Relation NameFault
intersected t u = related op.Intersect t u

abbrev pub union_or_except : Bool → SetOp
union_or_except true = op.Except
union_or_except false = op.Union

abbrev pub united : Bool → Relation → Relation → Result Relation NameFault
united except t u = related (union_or_except except) t u
