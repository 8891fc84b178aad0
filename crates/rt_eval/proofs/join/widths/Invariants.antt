use Rattle.std.proofs.Common.{◌≡◌, [], length, map, take, slice_index_or}
use Rattle.rt_eval.proofs.join.widths.Given as goal

abbrev pub invariant-loop-rows : goal.invariant-loop-rows
invariant-loop-rows l = l.out ≡ map (λ rows. length (slice_index_or rows 0 [])) (take l.rows-index l.members)
