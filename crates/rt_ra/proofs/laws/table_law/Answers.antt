use Rattle.rt_ra.proofs.Meant.{table-ok}
use Rattle.rt_ra.proofs.Typings as typing
use Rattle.rt_ra.proofs.laws.table_law.Goals as goal

pub returns-clause-keeps : goal.returns-clause-keeps
returns-clause-keeps c = λ db f. table-ok db c.args.name.now 0 c.args.tables.now f

pub returns-clause-typed : goal.returns-clause-typed
returns-clause-typed c = λ tables f. typing.table-ok tables c.args.name.now 0 c.args.tables.now f
