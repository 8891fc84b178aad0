use Rattle.std.proofs.Common.{◌≡◌, ◌++◌, drop}
use Rattle.std.specs.List.{filter_map, slice_get}
use Rattle.rt_algebra.specs.Answer.{join_each}
use Rattle.rt_eval.proofs.pairs.picked_each.Given as goal

abbrev pub invariant-loop-place : goal.invariant-loop-place
invariant-loop-place l =
    l.out ++ join_each l.before (filter_map (slice_get l.rows) (drop l.place-index l.places)) ≡ l.fn.out ++ join_each l.before (filter_map (slice_get l.rows) l.places)
