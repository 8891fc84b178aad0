use Rattle.std.proofs.Common.{◌+◌, ◌∙◌, subst, List, length, nat_eq, arith}
use Rattle.rt_store.specs.declared.trail.Step.{Step}
use Rattle.rt_solver.specs.Marking.{marked_by}
use Rattle.rt_store.specs.Trail.{oldest}
use Rattle.rt_solver.specs.Analysis.{IsWalkedBy}
use Rattle.rt_solver.proofs.Walks.{step-rests, line-within}
use Rattle.rt_solver.proofs.Stops.{walk-stopped, stop-marked}
use Rattle.rt_solver.proofs.Gathering.{gathered-lead, apart-at, lead-walked, lead-under, sought-end}
use Rattle.rt_solver.proofs.explain.walk_back.Goals as goal

pub resolve-requires-clause-line : goal.resolve-requires-clause-line
resolve-requires-clause-line g c =
    line-within (g.L.Adds.lines c.args.base.now.0) c.args.assume.now (oldest c.in-Some.place c.args.trail.now.steps) c.at-step.result.lit c.at-step.result.why
    (step-rests (g.L.Adds.lines c.args.base.now.0) c.args.assume.now c.args.trail.now.steps (oldest c.in-Some.place c.args.trail.now.steps) (c.in-Some.place + 1) c.at-step.result c.requires.founded c.at-step.ensures.step)

pub seek-preserved : goal.seek-preserved
seek-preserved g c =
    let rest = oldest c.in-Some.place c.args.trail.now.steps in
    let e = c.at-step.ensures.step in
    let h = c.in-Some.ensures in
    let r = step-rests (g.L.Adds.lines c.args.base.now.0) c.args.assume.now c.args.trail.now.steps rest (c.in-Some.place + 1) c.at-step.result c.requires.founded e in
    let P : List Step → Type 0 = λ t. IsWalkedBy (g.L.Adds.lines c.args.base.now.0) c.args.assume.now c.args.trail.now.vars t c.seek.walk.marks c.seek.walk.found.items c.seek.walk.hints.items in
    let w = walk-stopped (g.L.Adds.lines c.args.base.now.0) c.args.assume.now c.args.trail.now.vars c.args.trail.now.steps (nat_eq (length c.seek.walk.found.items) 1) c.seek.i c.in-Some.place c.seek.walk.marks c.seek.walk.found.items c.seek.walk.hints.items c.seek.invariant.place h c.seek.invariant.walked in
    record {
      place = (let o = h.order in let p = c.seek.invariant.place in omega (arith, o, p));
      none = c.in_ok-resolve.ensures.found ∙ c.seek.invariant.none;
      walked = c.in_ok-resolve.ensures.walked c.args.assume.now c.args.trail.now.vars rest (apart-at c.args.trail.now.vars c.args.trail.now.steps c.in-Some.place c.at-step.result c.at-step.ensures.apart e) r c.in_default-found.ensures (subst P e w);
    }

pub returns-in-Some-found : goal.returns-in-Some-found
returns-in-Some-found g c =
    let rest = oldest c.in-Some.place c.args.trail.now.steps in
    let e = c.at-step.ensures.step in
    let h = c.in-Some.ensures in
    let l = c.in-Some-found.ensures in
    let P : List Step → Type 0 = λ t. IsWalkedBy (g.L.Adds.lines c.args.base.now.0) c.args.assume.now c.args.trail.now.vars t c.seek.walk.marks c.seek.walk.found.items c.seek.walk.hints.items in
    let w = walk-stopped (g.L.Adds.lines c.args.base.now.0) c.args.assume.now c.args.trail.now.vars c.args.trail.now.steps (nat_eq (length c.seek.walk.found.items) 1) c.seek.i c.in-Some.place c.seek.walk.marks c.seek.walk.found.items c.seek.walk.hints.items c.seek.invariant.place h c.seek.invariant.walked in
    let x = c.in_ok-keep.ensures in
    record {
      within = (let a = l.under.order in let o = h.order in let p = c.seek.invariant.place in omega (arith, a, o, p));
      walked = lead-under (g.L.Adds.lines c.args.base.now.0) c.args.assume.now c.args.trail.now.vars c.args.trail.now.steps c.in-Some.place c.in-Some-found.cut c.seek.walk.marks c.keep.new.self.marks c.keep.new.self.found.items c.keep.new.self.hints.items x.marks
          (let o = h.order in let p = c.seek.invariant.place in omega (arith, o, p)) l.under
          (lead-walked (g.L.Adds.lines c.args.base.now.0) c.args.assume.now c.args.trail.now.vars rest c.at-step.result c.seek.walk.marks c.keep.new.self.marks c.seek.walk.found.items c.keep.new.self.found.items c.seek.walk.hints.items c.keep.new.self.hints.items
          (stop-marked (marked_by c.seek.walk.marks) c.seek.walk.found.items c.at-step.result c.seek.invariant.none (h.here c.at-step.result e)) x.marks x.due x.found x.hints (subst P e w));
      gathered = gathered-lead c.args.first c.args.trail.now.vars c.args.trail.now.steps (marked_by c.seek.walk.marks) c.in-Some.place c.in-Some-found.cut c.at-step.result c.seek.walk.found.items c.keep.new.self.found.items
          (apart-at c.args.trail.now.vars c.args.trail.now.steps c.in-Some.place c.at-step.result c.at-step.ensures.apart e) e l c.seek.invariant.none x.found;
    }

pub returns : goal.returns
returns g c =
    sought-end (g.L.Adds.lines c.args.base.now.0) c.args.assume.now c.args.trail.now (nat_eq (length c.seek.walk.found.items) 1) c.seek.i c.seek.walk c.seek.invariant.place c.in_default.ensures c.seek.invariant.none c.seek.invariant.walked
