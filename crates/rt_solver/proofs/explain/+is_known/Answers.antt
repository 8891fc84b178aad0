use Rattle.std.proofs.Common.{arith}
use Rattle.rt_store.proofs.Looks.{has-at}
use Rattle.rt_solver.proofs.explain.+is_known.Goals as goal

pub is-requires : goal.is-requires
is-requires g t c =
    let b = c.requires.line c.at-lit.result (has-at c.args.line.now c.loop-i.i c.at-lit.result (let t = c.loop-i-test.true in omega (arith, t, c.len-i-end.ensures)) c.at-lit.ensures) in
    omega (arith, b, c.var-v.ensures.is, c.requires.marks)

pub is_early-requires : goal.is_early-requires
is_early-requires g t c =
    let b = c.requires.line c.at-lit.result (has-at c.args.line.now c.loop-i.i c.at-lit.result (let t = c.loop-i-test.true in omega (arith, t, c.len-i-end.ensures)) c.at-lit.ensures) in
    omega (arith, b, c.var-v.ensures.is)

pub reason-requires : goal.reason-requires
reason-requires g t c =
    let b = c.requires.line c.at-lit.result (has-at c.args.line.now c.loop-i.i c.at-lit.result (let t = c.loop-i-test.true in omega (arith, t, c.len-i-end.ensures)) c.at-lit.ensures) in
    omega (arith, b, c.var-v.ensures.is)
