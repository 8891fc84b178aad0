use Rattle.std.proofs.Common.{◌≡◌, ◌++◌, drop}
use Rattle.rt_noted.specs.Joints.{join_joint}
use Rattle.rt_noted.proofs.joint.joined_each.Given as goal

abbrev pub invariant-loop-rest : goal.invariant-loop-rest
invariant-loop-rest l = l.joints ++ join_joint l.first (drop l.rest-index l.rests) ≡ l.fn.joints ++ join_joint l.first l.rests
