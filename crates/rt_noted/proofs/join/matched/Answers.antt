use Rattle.std.proofs.lemmas.Grind.{common_steps}
use Rattle.std.proofs.Common.{arith, ◌∙◌, ◌++◌, ap, get_or, ℕ, List}
use Rattle.std.specs.List.{filter_map, slice_get}
use Rattle.rt_noted.specs.Joints.{join_joint}
use Rattle.rt_noted.proofs.Narrowing.{matched_step}
use Rattle.rt_noted.proofs.join.matched.Goals as goal

pub loop-at-preserved : goal.loop-at-preserved
loop-at-preserved c =
    let ks = c.args.keys.now in
    let rows = c.args.rows.now in
    let b = c.index-befores-at.result in
    let ps = c.index-as_slice-at.result in
    matched_step ks c.args.befores.now rows c.loop-at.at b c.loop-at-test.true c.index-befores-at.is ps
    (c.index-as_slice-at.is ∙ ap (λ (xs : List (List ℕ)). get_or xs c.loop-at.at ps) (c.as_slice.ensures ∙ c.in_ok-places.ensures))
    _ _ _ (c.in_ok-picked_each.ensures ∙ ap (λ (ps : List ℕ). c.loop-at.out ++ join_joint b (filter_map (slice_get rows) ps)) c.as_slice-in-loop-at.ensures) c.loop-at.invariant

pub bounds-as_slice-at : goal.bounds-as_slice-at
bounds-as_slice-at c = grind (arith, common_steps)
