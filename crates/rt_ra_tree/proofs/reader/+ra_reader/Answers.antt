use Rattle.rt_ra_tree.proofs.RaLaws.{ra-applied}
use Rattle.rt_ra_tree.proofs.reader.+ra_reader.Goals as goal

pub ra-returns-in-Some : goal.ra-returns-in-Some
ra-returns-in-Some t c = ra-applied c.args.depth c.args.terminals.now c.in-Some.rest.now c.in-Some.head c.applied.result c.if-depth-eq0.false c.in-Some.ensures c.applied.ensures
