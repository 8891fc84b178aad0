use Rattle.std.proofs.Common.{◌≡◌, ◌-◌}
use Rattle.rt_store.specs.Members.{members}
use Rattle.rt_store.proofs.sift.sift_down.Given as goal

abbrev pub invariant-loop-place : goal.invariant-loop-place
invariant-loop-place l = members l.count l.order ≡ members l.count l.initial.order

abbrev pub decreases-loop-place : goal.decreases-loop-place
decreases-loop-place l = l.count - l.place
