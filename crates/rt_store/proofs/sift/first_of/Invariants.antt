use Rattle.std.proofs.Common.{◌<◌, ◌≤◌}
use Rattle.rt_store.proofs.sift.first_of.Given as goal

abbrev pub invariant-loop-place : goal.invariant-loop-place
invariant-loop-place l = (l.fn.from ≤ l.first) × (l.first < l.place)
