-- What tables and operators of one operand become in the algebra, or their first error (Codd 1970).
use Rattle.std.specs.Prelude.{ℕ, ◌+◌, if◌then◌else◌, List, [], ◌∷◌, length, Ok, Err, ◌==◌, bytes_eq}
use Rattle.rt_algebra.specs.Parts.{selected}
use Rattle.rt_algebra.specs.TextColumns as columns
use Rattle.rt_algebra.specs.declared.query.Query.TheVariants as query
use Rattle.rt_schema.specs.declared.table.Column.{Column as TableColumn}
use Rattle.rt_schema.specs.declared.table.Table.{Table}
use Rattle.rt_ra.specs.Conditions.{tests}
use Rattle.rt_relation.specs.Columns.{Text, called, picked, renamed, twice, unless_twice}
use Rattle.rt_relation.specs.Fault.{◌>>=◌}
use Rattle.rt_relation.specs.Operators.{Answer, placed}
use Rattle.rt_relation.specs.declared.column.Column.{Column}
use Rattle.rt_relation.specs.declared.relation.Relation.{Relation}
use Rattle.rt_ra_tree.specs.declared.fault.RaFault.TheVariants as fault
use Rattle.rt_ra_tree.specs.declared.tree.RaTests.{RaTests}

-- ---- tables

abbrev pub table_columns : List TableColumn → List Column
table_columns cs = columns.table_columns called cs

-- the table of the name, the first of all having the number `at`
abbrev pub table_named : Text → ℕ → List Table → Answer
table_named n at [] = Err (fault.UnknownTable n)
table_named n at (t ∷ ts) = if bytes_eq t.name n then Ok (record { query = query.Table at; columns = table_columns t.columns }) else table_named n (at + 1) ts

-- ---- operators of one operand

abbrev pub select : Relation → RaTests → Answer
select t ts = tests [] t.columns (ts.head ∷ ts.tail) >>= λ cs. Ok (record { query = selected t.query cs; columns = t.columns })

abbrev pub project : Relation → List Text → Answer
project t ns = picked [] ns t.columns >>= λ cs. unless_twice (twice ns 0 ns) (record { query = query.Project t.query (placed ns t.columns); columns = cs })

abbrev pub rename : Relation → List Text → Answer
rename t ns =
    if length ns == length t.columns then unless_twice (twice ns 0 ns) (record { query = t.query; columns = renamed ns t.columns })
    else Err fault.Columns
