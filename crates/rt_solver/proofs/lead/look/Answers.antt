use Rattle.std.proofs.Common.{◌-◌, ◌+◌, refl, arith}
use Rattle.rt_solver.specs.Marking.{marked_by}
use Rattle.rt_store.specs.Trail.{oldest}
use Rattle.rt_solver.specs.Analysis.{IsPlain}
use Rattle.rt_solver.proofs.Walks.{step-var}
use Rattle.rt_solver.proofs.Stops.{each-more, stop-at}
use Rattle.rt_solver.proofs.lead.look.Goals as goal

pub is_stop-requires : goal.is_stop-requires
is_stop-requires c =
    let v = step-var c.args.trail.now.vars c.args.trail.now.steps (oldest (c.look.i - 1) c.args.trail.now.steps) (c.look.i - 1 + 1) c.at.result c.at.ensures.apart c.at.ensures.step in
    omega (arith, v, c.requires.marks)

pub returns-then-is_stop : goal.returns-then-is_stop
returns-then-is_stop c =
    let p = c.look-test.true in
    record {
      order = (let o = c.look.invariant.order in omega (arith, o, p));
      here = stop-at c.args.trail.now.steps (marked_by c.args.marks.now) c.args.decisions (c.look.i - 1) c.at.result c.at.ensures.step (c.if-is_stop.ensures.stop refl);
      passed = λ k s a b e. c.look.invariant.passed k s (omega (arith, a, p)) b e;
    }

pub look-preserved : goal.look-preserved
look-preserved c =
    let p = c.look-test.true in
    record {
      order = (let o = c.look.invariant.order in omega (arith, o));
      passed = each-more (IsPlain (marked_by c.args.marks.now) c.args.decisions) c.args.trail.now.steps (c.look.i - 1) c.args.place c.at.result c.at.ensures.step (c.if-is_stop.ensures.plain refl)
          (λ k s a b e. c.look.invariant.passed k s (omega (arith, a, p)) b e);
    }

pub returns : goal.returns
returns c k s a b e = c.look.invariant.passed k s (let z = c.look-test.false in omega (arith, z)) b e
