use Rattle.std.proofs.Common.{◌≡◌, ◌++◌, drop}
use Rattle.rt_noted.specs.Joints.{pair_joints}
use Rattle.rt_noted.proofs.joint.joined.Given as goal

abbrev pub invariant-loop-first : goal.invariant-loop-first
invariant-loop-first l = l.out ++ pair_joints (drop l.first-index l.firsts) l.rests ≡ pair_joints l.firsts l.rests
