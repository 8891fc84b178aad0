use Rattle.std.proofs.Common.{sym}
use Rattle.rt_noted.proofs.Merged.{node_below}
use Rattle.rt_row.proofs.aim.node_of.Goals as goal

pub returns-in-Some-clause-below : goal.returns-in-Some-clause-below
returns-in-Some-clause-below c = node_below c.args.dag.now c.args.answer.now c.args.row.now c.in-Some.node c.requires (sym c.in-Some.ensures)
