use Rattle.std.proofs.Common.{◌+◌, ◌∙◌, subst, List, false, arith}
use Rattle.rt_store.specs.declared.trail.Step.{Step}
use Rattle.rt_store.specs.Trail.{oldest}
use Rattle.rt_solver.specs.Marking.{marked_by}
use Rattle.rt_solver.specs.Analysis.{IsWalkedBy}
use Rattle.rt_solver.proofs.Walks.{step-rests, line-within, oldest-none}
use Rattle.rt_solver.proofs.Stops.{walk-stopped, walk-passed}
use Rattle.rt_solver.proofs.Gathering.{apart-at}
use Rattle.rt_solver.proofs.Denials.{undecided-at, stop-plain}
use Rattle.rt_solver.proofs.deny.resolve_below.Goals as goal

pub resolve-requires-clause-line : goal.resolve-requires-clause-line
resolve-requires-clause-line g c =
    line-within (g.L.Adds.lines c.args.base.now.0) c.args.assume.now (oldest c.in-Some.place c.args.trail.now.steps) c.at-step.result.lit c.at-step.result.why
    (step-rests (g.L.Adds.lines c.args.base.now.0) c.args.assume.now c.args.trail.now.steps (oldest c.in-Some.place c.args.trail.now.steps) (c.in-Some.place + 1) c.at-step.result c.requires.founded c.at-step.ensures.step)

pub resolve-requires-clause-marked : goal.resolve-requires-clause-marked
resolve-requires-clause-marked g c = stop-plain (marked_by c.resolve.walk.marks) c.at-step.result (c.in-Some.ensures.here c.at-step.result c.at-step.ensures.step)

pub resolve-preserved : goal.resolve-preserved
resolve-preserved g c =
    let rest = oldest c.in-Some.place c.args.trail.now.steps in
    let e = c.at-step.ensures.step in
    let h = c.in-Some.ensures in
    let r = step-rests (g.L.Adds.lines c.args.base.now.0) c.args.assume.now c.args.trail.now.steps rest (c.in-Some.place + 1) c.at-step.result c.requires.founded e in
    let P : List Step → Type 0 = λ t. IsWalkedBy (g.L.Adds.lines c.args.base.now.0) c.args.assume.now c.args.trail.now.vars t c.resolve.walk.marks c.resolve.walk.found.items c.resolve.walk.hints.items in
    let w = walk-stopped (g.L.Adds.lines c.args.base.now.0) c.args.assume.now c.args.trail.now.vars c.args.trail.now.steps false c.resolve.i c.in-Some.place c.resolve.walk.marks c.resolve.walk.found.items c.resolve.walk.hints.items c.resolve.invariant.place h c.resolve.invariant.walked in
    record {
      place = (let o = h.order in let p = c.resolve.invariant.place in omega (arith, o, p));
      found = c.in_ok-resolve.ensures.found ∙ c.resolve.invariant.found;
      walked = c.in_ok-resolve.ensures.walked c.args.assume.now c.args.trail.now.vars rest (apart-at c.args.trail.now.vars c.args.trail.now.steps c.in-Some.place c.at-step.result c.at-step.ensures.apart e) r
          (undecided-at c.args.trail.now.steps c.in-Some.place c.at-step.result c.requires.undecided e) (subst P e w);
    }

pub returns-clause-walked : goal.returns-clause-walked
returns-clause-walked g c =
    let P : List Step → Type 0 = λ t. IsWalkedBy (g.L.Adds.lines c.args.base.now.0) c.args.assume.now c.args.trail.now.vars t c.resolve.walk.marks c.resolve.walk.found.items c.resolve.walk.hints.items in
    subst P (oldest-none c.args.trail.now.steps)
    (walk-passed (g.L.Adds.lines c.args.base.now.0) c.args.assume.now c.args.trail.now.vars c.args.trail.now.steps 0 c.resolve.i c.resolve.walk.marks c.resolve.walk.found.items c.resolve.walk.hints.items (omega arith) c.resolve.invariant.place
    (λ k s a b e. (c.in_default.ensures k s a b e).0) c.resolve.invariant.walked)
