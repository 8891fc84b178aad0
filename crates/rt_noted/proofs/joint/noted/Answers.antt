use Rattle.std.proofs.Common.{ap, refl}
use Rattle.std.specs.List.{list_all}
use Rattle.rt_formula.specs.Shared.{val}
use Rattle.rt_noted.specs.Joints.{joint_entries}
use Rattle.rt_noted.proofs.Growing.{grown_trans, nodes_stay, nodes_are, all_over}
use Rattle.rt_noted.proofs.Walking.{along_push, next_is}
use Rattle.rt_noted.proofs.Joining.{joint_below}
use Rattle.rt_noted.proofs.joint.noted.Goals as goal

pub all-requires : goal.all-requires
all-requires c =
    let j = c.joint-item.result in
    let b = joint_below c.args.dag.now c.args.joints.now c.loop-joint.joint-index j c.loop-joint-test.true c.joint-item.is c.requires in
    nodes_are c.loop-joint.dag c.as_slice.ensures (nodes_stay c.loop-joint.invariant.grown j.nodes b)

pub loop-joint-preserved : goal.loop-joint-preserved
loop-joint-preserved c =
    let d = c.args.dag.now in
    let i = c.loop-joint.joint-index in
    let j = c.joint-item.result in
    let b = joint_below d c.args.joints.now i j c.loop-joint-test.true c.joint-item.is c.requires in
    along_push (record { row = j.row; node = c.in_ok-node.node }) j.row (λ s. list_all (val d s) j.nodes) c.loop-joint.invariant
    (ap (joint_entries d) (next_is c.args.joints.now i j c.loop-joint-test.true c.joint-item.is))
    c.all.ensures.grown refl
    (all_over c.loop-joint.invariant.grown c.in_ok-node.node _ j.nodes b c.as_slice.ensures c.in_ok-node.ensures.node c.in_ok-node.ensures.means)
    c.in_ok-note.ensures

pub returns-in_err-node-clause-grown : goal.returns-in_err-node-clause-grown
returns-in_err-node-clause-grown c = grown_trans c.loop-joint.invariant.grown c.all.ensures.grown

pub returns-in_err-note-clause-grown : goal.returns-in_err-note-clause-grown
returns-in_err-note-clause-grown c = grown_trans c.loop-joint.invariant.grown c.all.ensures.grown
