use Rattle.std.proofs.Common.{◌≡◌, ◌++◌, take}
use Rattle.rt_least.specs.Sought.{left_out}
use Rattle.rt_search.proofs.encode.leave_out.Given as goal

abbrev pub invariant-loop-place : goal.invariant-loop-place
invariant-loop-place g l = g.A.Adds.lines l.to ≡ g.A.Adds.lines l.fn.to ++ left_out 0 (take l.place l.fn.cone)
