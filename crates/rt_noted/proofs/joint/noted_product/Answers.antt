use Rattle.std.proofs.Common.{◌∙◌}
use Rattle.rt_noted.proofs.Members.{whole_joints}
use Rattle.rt_noted.proofs.joint.noted_product.Goals as goal

pub noted-requires : goal.noted-requires
noted-requires c = whole_joints c.args.dag.now c.args.members.now (c.as_slice.ensures ∙ c.in_ok-joints.ensures) c.requires
