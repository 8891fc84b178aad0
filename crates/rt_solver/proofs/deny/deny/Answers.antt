use Rattle.std.proofs.Common.{◌∙◌, ◌+◌, ap, subst, refl, inl, inr, Some}
use Rattle.rt_clause.specs.Literal.{negated}
use Rattle.rt_store.specs.declared.trail.Why.{Why}
use Rattle.rt_store.specs.Trail.{oldest, RestsOn}
use Rattle.rt_solver.proofs.Walks.{step-rests}
use Rattle.rt_solver.proofs.Requeue.{copy_of}
use Rattle.rt_solver.proofs.Denials.{undecided-at, asked-spread}
use Rattle.rt_solver.proofs.deny.deny.Goals as goal

pub unreachable-requires : goal.unreachable-requires
unreachable-requires g c = undecided-at c.args.trail.now.steps c.place_of-place.result c.at-step.result c.requires.false_at_root.1 c.at-step.ensures.step c.in-Decided.is

pub reasons-requires-clause-number : goal.reasons-requires-clause-number
reasons-requires-clause-number g c =
    let r = step-rests (g.L.Adds.lines c.args.base.now.0) c.args.assume.now c.args.trail.now.steps (oldest c.place_of-place.result c.args.trail.now.steps) (c.place_of-place.result + 1) c.at-step.result c.requires.ready.founded c.at-step.ensures.step in
    let P : Why → Type 0 = λ w. RestsOn (g.L.Adds.lines c.args.base.now.0) c.args.assume.now (oldest c.place_of-place.result c.args.trail.now.steps) c.at-step.result.lit w in
    (subst P c.in-Line.is r).0

pub reasons-requires-clause-forced : goal.reasons-requires-clause-forced
reasons-requires-clause-forced g c k h =
    let r = step-rests (g.L.Adds.lines c.args.base.now.0) c.args.assume.now c.args.trail.now.steps (oldest c.place_of-place.result c.args.trail.now.steps) (c.place_of-place.result + 1) c.at-step.result c.requires.ready.founded c.at-step.ensures.step in
    let P : Why → Type 0 = λ w. RestsOn (g.L.Adds.lines c.args.base.now.0) c.args.assume.now (oldest c.place_of-place.result c.args.trail.now.steps) c.at-step.result.lit w in
    let s = c.place_of-place.ensures.step c.at-step.result c.at-step.ensures.step ∙ c.negated.ensures in
    elim ((subst P c.in-Line.is r).1.others k h) [ inl e ↦ inl (e ∙ s) | inr f ↦ inr f ]

pub derive-requires-clause-spread : goal.derive-requires-clause-spread
derive-requires-clause-spread g c =
    asked-spread c.args.trail.now.vars c.args.trail.now.steps c.args.assume.now c.args.question c.in_ok-copy-in-Line.copy c.requires.ready.apart c.requires.false_at_root.0 c.requires.ready.assumed
    (c.in_ok-copy-in-Line.ensures ∙ ap (λ ds. copy_of ds c.args.assume.now) (c.as_slice-in-Line.ensures.value ∙ c.in_ok-reasons-in-Line.ensures.found))

pub returns-in-Assumed-clause-denied : goal.returns-in-Assumed-clause-denied
returns-in-Assumed-clause-denied g c =
    let r = step-rests (g.L.Adds.lines c.args.base.now.0) c.args.assume.now c.args.trail.now.steps (oldest c.place_of-place.result c.args.trail.now.steps) (c.place_of-place.result + 1) c.at-step.result c.requires.ready.founded c.at-step.ensures.step in
    let P : Why → Type 0 = λ w. RestsOn (g.L.Adds.lines c.args.base.now.0) c.args.assume.now (oldest c.place_of-place.result c.args.trail.now.steps) c.at-step.result.lit w in
    let s = c.place_of-place.ensures.step c.at-step.result c.at-step.ensures.step ∙ c.negated.ensures in
    inl (subst P c.in-Assumed.is r ∙ ap Some s, refl, refl)
