use Rattle.std.proofs.Common.{◌≡◌, ◌++◌, drop}
use Rattle.std.specs.List.{filter_map, slice_get}
use Rattle.rt_noted.specs.Joints.{join_joint}
use Rattle.rt_noted.proofs.join.picked_each.Given as goal

abbrev pub invariant-loop-place : goal.invariant-loop-place
invariant-loop-place l =
    l.out ++ join_joint l.before (filter_map (slice_get l.rows) (drop l.place-index l.places)) ≡ l.fn.out ++ join_joint l.before (filter_map (slice_get l.rows) l.places)
