use Rattle.std.proofs.Common.{arith}
use Rattle.rt_least.proofs.LeftOut.{lines-more}
use Rattle.rt_search.proofs.encode.leave_out.Goals as goal

pub loop-place-preserved : goal.loop-place-preserved
loop-place-preserved g c = lines-more (g.A.Adds.lines c.args.to.now) _ _ c.args.cone.now c.loop-place.place c.is.result (let t = c.loop-place-test.true in let n = c.len-rows.ensures in omega (arith, t, n)) c.is.ensures c.loop-place.invariant c.in_ok-leave_one.ensures
