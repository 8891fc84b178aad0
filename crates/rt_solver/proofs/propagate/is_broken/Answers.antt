use Rattle.std.proofs.Common.{arith}
use Rattle.rt_store.proofs.Looks.{has-at}
use Rattle.rt_solver.proofs.propagate.is_broken.Goals as goal

pub is-requires : goal.is-requires
is-requires c = c.requires.below c.at-lit.result (has-at c.args.clause.now 0 c.at-lit.result (let n = c.in-1.is in omega (arith, n, c.len.ensures)) c.at-lit.ensures)

pub push-requires-clause-below : goal.push-requires-clause-below
push-requires-clause-below c = c.requires.below c.at-lit.result (has-at c.args.clause.now 0 c.at-lit.result (let n = c.in-1.is in omega (arith, n, c.len.ensures)) c.at-lit.ensures)
