use Rattle.std.proofs.Common.{◌≡◌, ℕ, ◌<◌, ◌≤◌}
use Rattle.rt_store.specs.Members.{members}
use Rattle.rt_store.proofs.sift.sift_up.Given as goal

abbrev pub invariant-loop-place : goal.invariant-loop-place
invariant-loop-place l = (l.place ≤ l.fn.start) × ((n : ℕ) → l.fn.start < n → members n l.order ≡ members n l.initial.order)

abbrev pub decreases-loop-place : goal.decreases-loop-place
decreases-loop-place l = l.place
