use Rattle.std.proofs.Common.{◌∙◌, ◌-◌, ap, length, List, [], ◌∷◌, ◌++◌}
use Rattle.rt_clause.specs.Literal.{Literal}
use Rattle.rt_store.specs.Trail.{oldest}
use Rattle.rt_solver.specs.Marking.{Marked, mark_at, marked_by}
use Rattle.rt_solver.proofs.Walks.{apart-drop, learned}
use Rattle.rt_solver.proofs.Denials.{walk-asked}
use Rattle.rt_solver.proofs.deny.reasons.Goals as goal

pub resolve_below-requires-clause-walked : goal.resolve_below-requires-clause-walked
resolve_below-requires-clause-walked g c =
    let b = c.in_ok-begin.ensures in
    let k = c.in_ok-keep.ensures in
    walk-asked (g.L.Adds.lines c.args.base.now.0) c.args.assume.now c.args.trail.now.vars (oldest c.args.place c.args.trail.now.steps) c.keep.new.self.marks c.mark.new.self c.keep.new.self.found.items c.keep.new.self.hints.items c.args.question c.args.number
    (k.found ∙ ap (λ (xs : List Literal). xs ++ c.args.question ∷ []) b.found) (k.hints ∙ b.hints)
    (c.in_ok-mark.ensures.len ∙ ap length k.marks ∙ ap (λ (m : Marked). length m.marks) b.marks ∙ c.requires.rested.vars_is)
    (apart-drop c.args.trail.now.vars (length c.args.trail.now.steps - c.args.place) c.args.trail.now.steps c.requires.ready.apart)
    (λ v. ap (λ ms. mark_at ms v) k.marks ∙ ap (λ (m : Marked). marked_by m v) b.marks ∙ c.requires.rested.unmarked.none v)
    c.in_ok-mark.ensures.counted c.requires.number c.requires.forced (λ l h. c.in_ok-mark.ensures.set l (c.at.ensures.to l h))

pub returns-clause-within : goal.returns-clause-within
returns-clause-within g c =
    (learned (g.L.Adds.lines c.args.base.now.0) c.args.assume.now c.args.trail.now.vars c.resolve_below.new.walk.marks c.resolve_below.new.walk.found.items c.resolve_below.new.walk.hints.items c.finish.new.self.hints.items c.finish.ensures.hints c.in_ok-resolve_below.ensures.walked).0
