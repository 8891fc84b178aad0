use Rattle.std.proofs.Common.{◌≡◌, ◌<◌, ◌+◌, ◌∷◌, sym, ap, ◌∙◌, subst, length, arith}
use Rattle.std.proofs.lemmas.List.{length-reverse}
use Rattle.rt_store.specs.Table.{Tracked}
use Rattle.rt_store.specs.Trail.{oldest}
use Rattle.rt_store.proofs.Tables.{oldest-at}
use Rattle.rt_store.proofs.trail.Trail.at.Goals as goal

pub returns-clause-step : goal.returns-clause-step
returns-clause-step c =
    let P : Tracked → Type 0 = λ t. oldest (c.args.i + 1) t.steps ≡ c.index.result.now ∷ oldest c.args.i t.steps in
    let L : Tracked → Type 0 = λ t. c.args.i < length t.steps in
    let low = subst L (sym c.self.view_is) c.requires in
    let l = length-reverse c.self.inside.steps.items in
    subst P c.self.view_is (oldest-at c.self.inside.steps.items c.args.i c.index.result.now (omega (arith, low, l)) c.index.ensures)
    ∙ ap (λ s. s ∷ oldest c.args.i c.args.self.now.steps) (sym c.step.ensures)
