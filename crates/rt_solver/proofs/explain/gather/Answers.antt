use Rattle.std.proofs.Common.{◌+◌, arith}
use Rattle.rt_solver.proofs.Gathering.{gathered-passed}
use Rattle.rt_solver.proofs.explain.gather.Goals as goal

pub pass-requires-clause-gathered : goal.pass-requires-clause-gathered
pass-requires-clause-gathered g c =
    let h = c.in-Some.ensures in
    gathered-passed (g.L.Adds.lines c.args.base.now.0) c.args.assume.now c.args.first c.args.trail.now (c.in-Some.place + 1) c.gather.i c.gather.cut c.gather.walk (let o = h.order in omega (arith, o)) c.gather.invariant.place h.passed c.gather.invariant.gathered

pub returns : goal.returns
returns g c =
    gathered-passed (g.L.Adds.lines c.args.base.now.0) c.args.assume.now c.args.first c.args.trail.now 0 c.gather.i c.gather.cut c.gather.walk (omega arith) c.gather.invariant.place c.in_default.ensures c.gather.invariant.gathered
