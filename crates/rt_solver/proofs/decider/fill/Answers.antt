use Rattle.std.proofs.Common.{◌∙◌, ap, length, true, length-set, arith}
use Rattle.rt_solver.proofs.Picks.{fill-step}
use Rattle.rt_solver.proofs.decider.fill.Goals as goal

pub loop-v-preserved : goal.loop-v-preserved
loop-v-preserved c =
    let v = c.loop-v.invariant in
    record {
      len = ap length c.put.ensures ∙ length-set c.loop-v.heap c.loop-v.v true ∙ v.len;
      held = fill-step c.loop-v.heap c.put.new.self c.loop-v.v c.put.ensures (let t = c.loop-v-test.true in let r = c.requires in let l = v.len in omega (arith, t, r, l)) v.held;
    }
