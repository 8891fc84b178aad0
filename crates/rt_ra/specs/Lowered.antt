-- What an algebra text becomes over the tables of a schema, or its first error in the walk: the
-- operands from the left, then the tests of the operator itself.
use Rattle.std.specs.Prelude.{List, Result, Ok}
use Rattle.rt_algebra.specs.declared.typed.Typed.{Typed}
use Rattle.rt_relation.specs.Columns.{texts}
use Rattle.rt_relation.specs.Fault.{◌>>=◌}
use Rattle.rt_relation.specs.Operators.{Answer, two, typed_of}
use Rattle.rt_ra.specs.Unary.{project, rename, select, table_named}
use Rattle.rt_ra_tree.specs.declared.fault.RaFault.{RaFault}
use Rattle.rt_ra_tree.specs.declared.tree.Ra.{Ra}
use Rattle.rt_ra_tree.specs.declared.tree.Ra.TheFolds.{fold-Ra}
use Rattle.rt_ra_tree.specs.declared.tree.Ra.TheOpen.{Ra-F}
use Rattle.rt_ra_tree.specs.declared.tree.Ra.TheOpen as ra
use Rattle.rt_ra_tree.specs.declared.tree.RaNames.{RaNames}
use Rattle.rt_ra_tree.specs.declared.tree.RaOp.{RaOp}
use Rattle.rt_ra_tree.specs.declared.tree.RaTests.{RaTests}
use Rattle.rt_ra_tree.specs.declared.tree.RaText.{RaText}
use Rattle.rt_schema.specs.declared.table.Table.{Table}

-- over the tables of a schema
abbrev pub Lowering : Type 0
Lowering = List Table → Answer

-- ---- an operator over what its operands became, the left one first

abbrev pub selected : Answer → RaTests → Answer
selected a ts = a >>= λ t. select t ts

abbrev pub projected : Answer → RaNames → Answer
projected a ns = a >>= λ t. project t (texts ns)

abbrev pub renamed : Answer → RaNames → Answer
renamed a ns = a >>= λ t. rename t (texts ns)

abbrev pub both : RaOp → Answer → Answer → Answer
both o a b = a >>= λ t. b >>= λ u. two o t u

-- ---- the walk

abbrev pub ra_step : Ra-F Lowering → Lowering
ra_step (ra.Table n) tables = table_named n.text 0 tables
ra_step (ra.Select a ts) tables = selected (a tables) ts
ra_step (ra.Project a ns) tables = projected (a tables) ns
ra_step (ra.Rename a ns) tables = renamed (a tables) ns
ra_step (ra.Two o a b) tables = both o (a tables) (b tables)

-- the query of a tree, with its columns
abbrev pub relation : Ra → Lowering
relation = fold-Ra Lowering ra_step

-- the query of a text, with the kinds, bounds and names of its columns
abbrev pub ra_lowered : RaText → List Table → Result Typed RaFault
ra_lowered text tables = relation text.of tables >>= λ r. Ok (typed_of r)
