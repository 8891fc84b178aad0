use Rattle.std.proofs.Common.{arith, rules}
use Rattle.csv.specs.Records.{fields_of}
use Rattle.rt_load.proofs.LoadLemmas.{row-many, row-short, row-whole}
use Rattle.rt_load.proofs.file.row_of.Goals as goal

pub returns-then-len-columns-clause-value : goal.returns-then-len-columns-clause-value
returns-then-len-columns-clause-value c = row-short c.args.columns.now c.args.n c.args.before (fields_of c.args.fields.now) (search rules)

pub returns-then-before-ge-ROW_LIMIT-clause-value : goal.returns-then-before-ge-ROW_LIMIT-clause-value
returns-then-before-ge-ROW_LIMIT-clause-value c = row-many c.args.columns.now c.args.n c.args.before (fields_of c.args.fields.now) (search rules) (omega arith)

pub returns-clause-value : goal.returns-clause-value
returns-clause-value c = rw (row-whole c.args.columns.now c.args.n c.args.before (fields_of c.args.fields.now) (search rules) (omega arith)) c.cells_of.ensures
