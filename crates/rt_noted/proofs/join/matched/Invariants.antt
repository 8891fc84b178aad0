use Rattle.std.proofs.Common.{◌≡◌, ◌++◌, drop}
use Rattle.rt_noted.specs.Narrowed.{matched_joints}
use Rattle.rt_noted.proofs.join.matched.Given as goal

abbrev pub invariant-loop-at : goal.invariant-loop-at
invariant-loop-at l = l.out ++ matched_joints l.keys (drop l.at l.befores) l.rows ≡ matched_joints l.keys l.befores l.rows
