use Rattle.std.proofs.Common.{arith}
use Rattle.rt_store.proofs.Looks.{has-at}
use Rattle.rt_solver.proofs.turn.search.Goals as goal

pub is_false-requires : goal.is_false-requires
is_false-requires c = c.requires.below c.at-third.result (has-at c.args.clause.now 2 c.at-third.result (let n = c.in-None.ensures in omega (arith, n)) c.at-third.ensures)
