use Rattle.std.proofs.Common.{◌≡◌, map, take}
use Rattle.rt_noted.proofs.join.joint_rows.Given as goal

abbrev pub invariant-loop-joint : goal.invariant-loop-joint
invariant-loop-joint l = map (λ r. r.now) l.out ≡ map (λ j. j.row) (take l.joint-index l.joints)
