use Rattle.std.proofs.Common.{◌≡◌, ◌<◌, ◌++◌, ◌∷◌, [], length, Bool, true, List, ap, sym, subst, ◌∙◌}
use Rattle.std.specs.Prelude.{if◌then◌else◌}
use Rattle.rt_recorder.specs.declared.cert.Step.{Step}
use Rattle.rt_clause.specs.Literal.{Literal}
use Rattle.std.specs.List.{All}
use Rattle.rt_recorder.specs.Recording.{AreSteps, Recording}
use Rattle.rt_recorder.proofs.Recorded.{steps-derived}
use Rattle.rt_recorder.proofs.recorder.RecorderLines.derive.Goals as goal

pub invariant_of-self-then-yes : goal.invariant_of-self-then-yes
invariant_of-self-then-yes c =
    let lines : List (List Literal) = c.self.inside.checker.lines in
    let ds : List Bool = c.self.inside.checker.derived.items in
    subst (λ (ss : List Step). AreSteps c.derive.new.self.lines c.derive.new.self.derived.items ss)
    (sym (c.push_reserved.ensures.items ∙ ap (λ (ss : List Step). ss ++ c.in_ok-step.step ∷ []) c.reserve.ensures.items))
    (steps-derived lines c.derive.new.self.lines c.args.lits.now c.args.hints.now ds c.derive.new.self.derived.items c.self.inside.steps.items c.in_ok-step.step c.self.invariant
    c.in_ok-step.ensures.fits c.in_ok-step.ensures.lits c.in_ok-step.ensures.hints
    (subst (λ (ls : List (List Literal)). All (λ h. h < length ls) c.args.hints.now) (ap (λ (r : Recording). r.lines) (sym c.self.view_is)) c.requires) (sym c.in_ok-yes.ensures.yes ∙ c.if-yes.true)
    (subst (λ (b : Bool). c.derive.new.self.lines ≡ (if b then lines ++ c.args.lits.now ∷ [] else lines)) c.if-yes.true c.in_ok-yes.ensures.lines)
    (subst (λ (b : Bool). c.derive.new.self.derived.items ≡ (if b then ds ++ true ∷ [] else ds)) c.if-yes.true c.in_ok-yes.ensures.derived))
