use Rattle.rt_store.proofs.Copies.{others-first}
use Rattle.rt_store.proofs.clause.other.Goals as goal

pub returns : goal.returns
returns c = others-first c.args.lits.now c.index-lits-0.result c.loop-j.j c.index-lits-0.is c.loop-j.invariant c.loop-j-test.false
