use Rattle.std.proofs.Common.{drop}
use Rattle.rt_noted.specs.Annotated.{Along}
use Rattle.rt_noted.specs.Joints.{joint_entries}
use Rattle.rt_noted.proofs.joint.noted.Given as goal

abbrev pub invariant-loop-joint : goal.invariant-loop-joint
invariant-loop-joint l = Along l.fn.dag l.dag l.out (joint_entries l.fn.dag (drop l.joint-index l.joints)) (joint_entries l.fn.dag l.joints)
