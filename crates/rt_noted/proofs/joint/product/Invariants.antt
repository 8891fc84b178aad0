use Rattle.std.proofs.Common.{◌≡◌, drop}
use Rattle.rt_noted.specs.Joints.{product_joints, unit_joints}
use Rattle.rt_noted.proofs.joint.product.Given as goal

abbrev pub invariant-loop-rows : goal.invariant-loop-rows
invariant-loop-rows l = product_joints l.out (drop l.rows-index l.members) ≡ product_joints unit_joints l.members
