use Rattle.rt_schema.proofs.GivenLemmas.{row-read}
use Rattle.rt_schema.proofs.given.Given.row.Goals as goal

pub returns : goal.returns
returns c = row-read c.args.self.now.tables c.args.table c.args.at c.index-tables-table.result c.index-as_slice-at.result c.requires (rw c.tables.ensures.same at c.index-tables-table.is)
    (rw c.as_slice.ensures at c.index-as_slice-at.is)
