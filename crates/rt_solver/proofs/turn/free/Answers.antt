use Rattle.std.proofs.Common.{arith}
use Rattle.rt_store.proofs.Looks.{has-at}
use Rattle.rt_solver.proofs.turn.free.Goals as goal

pub is_false-requires : goal.is_false-requires
is_false-requires c = c.requires.below c.index-clause-j.result (has-at c.args.clause.now c.loop-j.j c.index-clause-j.result (let t = c.loop-j-test.true in let b = c.requires.to in omega (arith, t, b)) c.index-clause-j.is)
