use Rattle.std.proofs.Common.{◌∙◌, ◌+◌, ℕ, Option, arith, subst}
use Rattle.std.specs.Prelude.{MatchOption}
use Rattle.rt_store.specs.Trail.{lits, oldest}
use Rattle.rt_solver.specs.Propagating.{IsQueued, IsConflict}
use Rattle.rt_store.proofs.Number.{length-fits}
use Rattle.rt_solver.proofs.Queues.{all-trans, propagated-same, propagated-trans, length-grown}
use Rattle.rt_solver.proofs.propagate.propagate.Goals as goal

pub returns-in_err-number-clause-steps : goal.returns-in_err-number-clause-steps
returns-in_err-number-clause-steps c =
    propagated-trans c.args.clauses.now.items c.args.trail.now.steps c.steps.trail.steps c.visit.new.trail.steps c.steps.invariant.steps
    (propagated-same c.args.clauses.now.items c.steps.clauses.items c.steps.trail.steps c.visit.new.trail.steps c.steps.invariant.same c.visit.ensures.steps)

pub returns-in-Some-clause-steps : goal.returns-in-Some-clause-steps
returns-in-Some-clause-steps c =
    propagated-trans c.args.clauses.now.items c.args.trail.now.steps c.steps.trail.steps c.visit.new.trail.steps c.steps.invariant.steps
    (propagated-same c.args.clauses.now.items c.steps.clauses.items c.steps.trail.steps c.visit.new.trail.steps c.steps.invariant.same c.visit.ensures.steps)

pub steps-smaller : goal.steps-smaller
steps-smaller c =
    let l = length-fits c.steps.trail.vars c.steps.trail.steps c.len.ensures.apart in
    let b = c.steps-test.true in let e = c.len.ensures.is in let v = c.visit.ensures.vars in omega (arith, l, b, e, v)

pub steps-preserved : goal.steps-preserved
steps-preserved c =
    let Q : Option ℕ → Type 0 = λ o. MatchOption o (IsQueued c.visit.new.clauses.items (lits (oldest (c.steps.done + 1) c.visit.new.trail.steps)) c.visit.new.trail.steps) (λ i. IsConflict c.visit.new.clauses.items c.visit.new.trail.steps i) in
    record {
      place = (let b = c.steps-test.true in let e = c.len.ensures.is in let g = length-grown c.steps.clauses.items c.steps.trail.steps c.visit.new.trail.steps c.visit.ensures.steps in omega (arith, b, e, g));
      vars = c.visit.ensures.vars ∙ c.steps.invariant.vars;
      same = all-trans c.args.clauses.now.items c.steps.clauses.items c.visit.new.clauses.items c.steps.invariant.same c.visit.ensures.same;
      listed = c.visit.ensures.listed;
      steps = propagated-trans c.args.clauses.now.items c.args.trail.now.steps c.steps.trail.steps c.visit.new.trail.steps c.steps.invariant.steps
          (propagated-same c.args.clauses.now.items c.steps.clauses.items c.steps.trail.steps c.visit.new.trail.steps c.steps.invariant.same c.visit.ensures.steps);
      queued = subst Q c.in_default.is c.in_ok-number.ensures.visited;
    }
