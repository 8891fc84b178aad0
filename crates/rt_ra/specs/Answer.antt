-- What an algebra text answers on the rows of the tables of a schema, over plain lists.
use Rattle.std.specs.Prelude.{List, ◌∷◌}
use Rattle.rt_ra.specs.OperatorAnswers.{Named, project, rename, select, table_rows, two}
use Rattle.rt_relation.specs.Columns.{texts}
use Rattle.rt_ra_tree.specs.declared.tree.Ra.{Ra}
use Rattle.rt_ra_tree.specs.declared.tree.Ra.TheFolds.{fold-Ra}
use Rattle.rt_ra_tree.specs.declared.tree.Ra.TheOpen.{Ra-F}
use Rattle.rt_ra_tree.specs.declared.tree.Ra.TheOpen as ra
use Rattle.rt_ra_tree.specs.declared.tree.RaText.{RaText}
use Rattle.rt_schema.specs.Given.{Rows, Tables}
use Rattle.rt_schema.specs.declared.table.Table.{Table}

-- over the tables of a schema and their rows
abbrev pub Meaning : Type 0
Meaning = List Table → Tables → Named

abbrev pub ra_step : Ra-F Meaning → Meaning
ra_step (ra.Table n) tables db = table_rows n.text 0 tables db
ra_step (ra.Select a ts) tables db = select (a tables db) (ts.head ∷ ts.tail)
ra_step (ra.Project a ns) tables db = project (a tables db) (texts ns)
ra_step (ra.Rename a ns) tables db = rename (a tables db) (texts ns)
ra_step (ra.Two o a b) tables db = two o (a tables db) (b tables db)

-- the rows of a tree, with the names of their columns
abbrev pub named : Ra → Meaning
named = fold-Ra Meaning ra_step

abbrev pub ra_answer : RaText → List Table → Tables → Rows
ra_answer text tables db = (named text.of tables db).rows
