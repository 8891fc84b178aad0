use Rattle.std.proofs.Common.{◌∙◌, refl, sym, ap, subst, false, List, Bool, length, length-set, arith}
use Rattle.rt_solver.specs.Picking.{HasOpenBut, held_count}
use Rattle.rt_solver.proofs.Picks.{held-less, open-less, open-kept, open-none}
use Rattle.rt_solver.proofs.decider.take.Goals as goal

pub returns-then-is_open-clause-taken : goal.returns-then-is_open-clause-taken
returns-then-is_open-clause-taken c =
    let o = c.if-is_open.ensures.0 refl in
    let P : List Bool → Type 0 = λ h. HasOpenBut c.args.bound h c.args.trail.now.steps c.in-Some.v in
    (o.0, o.1, subst P (sym c.in-Some.ensures.2) (open-less c.args.bound c.held.heap c.args.trail.now.steps c.in-Some.v c.held.invariant.held))

pub held-smaller : goal.held-smaller
held-smaller c = let h = held-less c.held.heap c.in-Some.v c.in-Some.ensures.1 in let e = ap held_count c.in-Some.ensures.2 in omega (arith, h, e)

pub held-preserved : goal.held-preserved
held-preserved c =
    let P : List Bool → Type 0 = λ h. HasOpenBut c.args.bound h c.args.trail.now.steps c.in-Some.v in
    record {
      len = ap length c.in-Some.ensures.2 ∙ length-set c.held.heap c.in-Some.v false ∙ c.held.invariant.len;
      held = open-kept c.args.bound c.take.new.self c.args.trail.now.steps c.in-Some.v (subst P (sym c.in-Some.ensures.2) (open-less c.args.bound c.held.heap c.args.trail.now.steps c.in-Some.v c.held.invariant.held))
          (λ b n. let t = c.if-is_open.ensures.1 (b, n) in cc);
    }

pub returns-clause-taken : goal.returns-clause-taken
returns-clause-taken c = open-none c.args.bound c.held.heap c.args.trail.now.steps c.held.invariant.held c.in_default.ensures.1
