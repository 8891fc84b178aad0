use Rattle.std.proofs.Common.{◌∙◌, true, false, sym}
use Rattle.rt_ddl.proofs.TwiceLemmas.{column-twice}
use Rattle.rt_ddl.proofs.twice.part_twice.Goals as goal

pub returns-then-has : goal.returns-then-has
returns-then-has c = column-twice c.args.table.now c.args.before.now c.args.columns.now c.in-Column.column c.args.part.now true c.requires c.in-Column.is (sym c.has.ensures ∙ c.if-has.true)

pub returns-else-has : goal.returns-else-has
returns-else-has c = column-twice c.args.table.now c.args.before.now c.args.columns.now c.in-Column.column c.args.part.now false c.requires c.in-Column.is (sym c.has.ensures ∙ c.if-has.false)
