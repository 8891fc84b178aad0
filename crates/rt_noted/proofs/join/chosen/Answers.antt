use Rattle.std.proofs.Common.{◌∙◌, ap, ap₂, map, drop, List}
use Rattle.rt_split.specs.Split.{first}
use Rattle.rt_algebra.specs.declared.query.Pred.{Pred}
use Rattle.rt_split.specs.declared.parts.KeyPair.{KeyPair}
use Rattle.rt_formula.specs.declared.noted.Noted.{Noted}
use Rattle.rt_noted.specs.declared.joint.Joint.{Joint}
use Rattle.rt_noted.specs.Narrowed.{matched_joints, own_rows}
use Rattle.rt_noted.proofs.Narrowing.{chosen_step}
use Rattle.rt_noted.proofs.join.chosen.Goals as goal

pub loop-at-preserved : goal.loop-at-preserved
loop-at-preserved c =
    let env = map (λ r. r.now) c.args.env.now in
    let parts = c.args.parts.now in
    chosen_step parts.own parts.keys c.args.members.now env c.loop-at.at c.index-members-at.result c.loop-at-test.true c.index-members-at.is
    _ _ _ c.in_ok-own.own
    (c.in_ok-own.ensures ∙ ap₂ (λ (ps : List Pred) (ns : List Noted). own_rows ps env ns) c.own_of.ensures c.as_slice.ensures)
    (c.in_ok-out-2.ensures ∙ ap₂ (λ (ks : List KeyPair) (js : List Joint). matched_joints ks js c.as_slice-in-loop-at-2.result.now) c.keys_of.ensures c.as_slice-in-loop-at.ensures
    ∙ ap (matched_joints (first (drop c.loop-at.at parts.keys)) c.loop-at.out) c.as_slice-in-loop-at-2.ensures)
    c.loop-at.invariant
