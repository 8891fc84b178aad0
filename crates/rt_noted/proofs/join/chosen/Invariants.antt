use Rattle.std.proofs.Common.{◌≡◌, map, drop}
use Rattle.rt_noted.specs.Joints.{unit_joints}
use Rattle.rt_noted.specs.Narrowed.{joined_joints}
use Rattle.rt_noted.proofs.join.chosen.Given as goal

abbrev pub invariant-loop-at : goal.invariant-loop-at
invariant-loop-at l =
    joined_joints (drop l.at l.parts.own) (drop l.at l.parts.keys) l.out (drop l.at l.members) (map (λ r. r.now) l.env)
    ≡ joined_joints l.parts.own l.parts.keys unit_joints l.members (map (λ r. r.now) l.env)
