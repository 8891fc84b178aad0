use Rattle.std.proofs.Common.{◌∙◌, ◌∷◌, ap, ap₂, map, List}
use Rattle.std.specs.List.{filter}
use Rattle.rt_schema.specs.Given.{Rows}
use Rattle.rt_algebra.specs.Expression.{wrapped}
use Rattle.rt_split.specs.Join.{matched}
use Rattle.rt_split.specs.Split.{all_simple}
use Rattle.rt_algebra.specs.declared.query.Pred.{Pred}
use Rattle.rt_split.specs.declared.parts.KeyPair.{KeyPair}
use Rattle.rt_eval.specs.Pairs.{all_joined}
use Rattle.rt_eval.proofs.Joining.{chosen_step}
use Rattle.rt_eval.proofs.join.chosen.Goals as goal

pub loop-at-preserved : goal.loop-at-preserved
loop-at-preserved c =
    let env = map (λ s. s.now) c.args.env.now in
    let parts = c.args.parts.now in
    let out = all_joined c.loop-at.pairs.befores c.loop-at.pairs.rows c.loop-at.pairs.places in
    chosen_step wrapped parts.own parts.keys c.args.members.now env c.loop-at.at c.index-members-at.result c.loop-at-test.true c.index-members-at.is
    out _ _ _
    (ap₂ (λ (ps : List Pred) (rs : Rows). filter (λ r. all_simple wrapped ps (r ∷ env)) rs) c.own_of.ensures c.as_slice.ensures)
    (c.in_ok-pairs-2.ensures ∙ ap (λ (ks : List KeyPair). matched ks out (filter (λ r. all_simple wrapped c.own_of.result.now (r ∷ env)) c.as_slice.result.now)) c.keys_of.ensures)
    c.loop-at.invariant
