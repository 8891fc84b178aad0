use Rattle.std.proofs.Common.{◌+◌, ◌∙◌, ap, sym, refl, subst, List, arith}
use Rattle.rt_store.specs.declared.trail.Step.{Step}
use Rattle.rt_solver.specs.Marking.{marked_by}
use Rattle.rt_store.specs.Trail.{oldest}
use Rattle.rt_solver.specs.Analysis.{IsWalkedBy, IsGatheredBy}
use Rattle.rt_solver.proofs.Walks.{step-var, step-rests, line-within}
use Rattle.rt_solver.proofs.Gathering.{apart-at, lead-walked, gathered-found, gathered-skip, gathered-decided, found-same}
use Rattle.rt_solver.proofs.explain.pass.Goals as goal

pub is-requires : goal.is-requires
is-requires g c =
    let v = step-var c.args.trail.now.vars c.args.trail.now.steps (oldest c.args.place c.args.trail.now.steps) (c.args.place + 1) c.at-step.result c.at-step.ensures.apart c.at-step.ensures.step in
    omega (arith, v, c.requires.gathered.walked.vars_is, c.var.ensures.is)

pub stays-requires-clause-line : goal.stays-requires-clause-line
stays-requires-clause-line g c =
    line-within (g.L.Adds.lines c.args.base.now.0) c.args.assume.now (oldest c.args.place c.args.trail.now.steps) c.at-step.result.lit c.at-step.result.why
    (step-rests (g.L.Adds.lines c.args.base.now.0) c.args.assume.now c.args.trail.now.steps (oldest c.args.place c.args.trail.now.steps) (c.args.place + 1) c.at-step.result c.requires.founded c.at-step.ensures.step)

pub resolve-requires-clause-line : goal.resolve-requires-clause-line
resolve-requires-clause-line g c =
    line-within (g.L.Adds.lines c.args.base.now.0) c.args.assume.now (oldest c.args.place c.args.trail.now.steps) c.at-step.result.lit c.at-step.result.why
    (step-rests (g.L.Adds.lines c.args.base.now.0) c.args.assume.now c.args.trail.now.steps (oldest c.args.place c.args.trail.now.steps) (c.args.place + 1) c.at-step.result c.requires.founded c.at-step.ensures.step)

pub returns-then-not-is : goal.returns-then-not-is
returns-then-not-is g c =
    gathered-decided (g.L.Adds.lines c.args.base.now.0) c.args.assume.now c.args.first c.args.trail.now c.args.place c.args.cut c.args.walk.now c.at-step.result c.requires.place c.at-step.ensures.step
    (ap (marked_by c.args.walk.now.marks) (sym c.var.ensures.is) ∙ sym c.is.ensures ∙ c.if-not-is.true) (c.requires.stop c.at-step.result c.at-step.ensures.step) c.requires.gathered

pub returns-then-stays : goal.returns-then-stays
returns-then-stays g c =
    let rest = oldest c.args.place c.args.trail.now.steps in
    let e = c.at-step.ensures.step in
    let h = c.requires.gathered in
    let P : List Step → Type 0 = λ t. IsWalkedBy (g.L.Adds.lines c.args.base.now.0) c.args.assume.now c.args.trail.now.vars t c.args.walk.now.marks c.args.walk.now.found.items c.args.walk.now.hints.items in
    let G : List Step → Type 0 = λ t. IsGatheredBy c.args.first c.args.trail.now.steps t (oldest c.args.cut c.args.trail.now.steps) c.args.walk.now.found.items in
    let x = c.in_ok-keep.ensures in
    record {
      within = h.within;
      walked = lead-walked (g.L.Adds.lines c.args.base.now.0) c.args.assume.now c.args.trail.now.vars rest c.at-step.result c.args.walk.now.marks c.keep.new.self.marks c.args.walk.now.found.items c.keep.new.self.found.items c.args.walk.now.hints.items c.keep.new.self.hints.items
          (ap (marked_by c.args.walk.now.marks) (sym c.var.ensures.is) ∙ sym c.is.ensures ∙ c.if-not-is.false) x.marks x.due x.found x.hints (subst P e h.walked);
      gathered = gathered-found c.args.first c.args.trail.now.vars c.args.trail.now.steps rest (oldest c.args.cut c.args.trail.now.steps) c.at-step.result c.args.walk.now.found.items c.keep.new.self.found.items
          (apart-at c.args.trail.now.vars c.args.trail.now.steps c.args.place c.at-step.result c.at-step.ensures.apart e) (c.if-stays.ensures.choice refl) x.found (subst G e h.gathered);
    }

pub returns : goal.returns
returns g c =
    let rest = oldest c.args.place c.args.trail.now.steps in
    let e = c.at-step.ensures.step in
    let h = c.requires.gathered in
    let r = step-rests (g.L.Adds.lines c.args.base.now.0) c.args.assume.now c.args.trail.now.steps rest (c.args.place + 1) c.at-step.result c.requires.founded e in
    let P : List Step → Type 0 = λ t. IsWalkedBy (g.L.Adds.lines c.args.base.now.0) c.args.assume.now c.args.trail.now.vars t c.args.walk.now.marks c.args.walk.now.found.items c.args.walk.now.hints.items in
    let G : List Step → Type 0 = λ t. IsGatheredBy c.args.first c.args.trail.now.steps t (oldest c.args.cut c.args.trail.now.steps) c.args.walk.now.found.items in
    let x = c.in_ok-resolve.ensures in
    let n = c.if-stays.ensures.other refl in
    record {
      within = h.within;
      walked = x.walked c.args.assume.now c.args.trail.now.vars rest (apart-at c.args.trail.now.vars c.args.trail.now.steps c.args.place c.at-step.result c.at-step.ensures.apart e) r n (subst P e h.walked);
      gathered = found-same c.args.first c.args.trail.now.steps rest (oldest c.args.cut c.args.trail.now.steps) c.args.walk.now.found.items c.resolve.new.walk.found.items x.found
          (gathered-skip c.args.first c.args.trail.now.steps rest (oldest c.args.cut c.args.trail.now.steps) c.at-step.result c.args.walk.now.found.items (λ o. n) (subst G e h.gathered));
    }
