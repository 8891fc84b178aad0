use Rattle.std.proofs.Common.{◌∙◌, ap, arith}
use Rattle.rt_store.specs.Trail.{value_in}
use Rattle.rt_solver.proofs.next.picked.Goals as goal

pub returns-in-None-clause-next : goal.returns-in-None-clause-next
returns-in-None-clause-next c = (c.in-None.ensures.picked, tt)

pub returns-in-Some-clause-next : goal.returns-in-Some-clause-next
returns-in-Some-clause-next c =
    let o = c.in-Some.ensures.picked in
    let e = c.decision.ensures.var in
    record {
      within = (let b = o.within in omega (arith, e, b));
      unset = ap (value_in c.args.trail.now.steps) e ∙ o.unset;
      smallest = λ z w l. o.smallest (omega (arith, e, z)) w (omega (arith, e, l));
      fixed = c.decision.ensures.fixed;
      offered = λ s h. o.offered s (h ∙ e);
      led = tt;
    }
