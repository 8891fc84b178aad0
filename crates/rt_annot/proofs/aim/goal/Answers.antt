use Rattle.std.proofs.Common.{◌∙◌, sym}
use Rattle.std.proofs.lemmas.Result.{IfOk-weaker}
use Rattle.rt_annot.proofs.Referring.{goal_means, goal_parts}
use Rattle.rt_noted.proofs.Growing.{grown_trans}
use Rattle.rt_noted.proofs.Joining.{both_hold}
use Rattle.rt_annot.proofs.aim.goal.Goals as goal

pub returns-clause-parts : goal.returns-clause-parts
returns-clause-parts c =
    let made = c.in_ok-reference.ensures in
    IfOk-weaker c.goal_beside.result _ _
    (λ a p keep l. goal_parts c.args.schema.now c.args.given.now c.args.left.now c.of.new.dag c.in_ok-reference.reference made.reference keep (l ∙ sym made.grown.rows) _ _ (p keep)) c.goal_beside.ensures.parts

pub returns-clause-means : goal.returns-clause-means
returns-clause-means c =
    let made = c.in_ok-reference.ensures in
    both_hold c.goal_beside.result _ _ _
    (λ a p m keep l. goal_means c.args.schema.now c.args.given.now c.args.left.now c.of.new.dag c.in_ok-reference.reference made.reference keep (l ∙ sym made.grown.rows) _ _ _ (p keep) (m keep)) c.goal_beside.ensures.parts c.goal_beside.ensures.means

pub returns-clause-grown : goal.returns-clause-grown
returns-clause-grown c = grown_trans c.of.ensures.grown c.goal_beside.ensures.grown

pub goal_beside-requires-clause-rows : goal.goal_beside-requires-clause-rows
goal_beside-requires-clause-rows c = c.of.ensures.grown.rows ∙ c.requires.rows
