use Rattle.std.proofs.Common.{◌≡◌, false, filter, slice_index_or}
use Rattle.std.specs.List.{range_with_len}
use Rattle.rt_cert.proofs.places.places_of.Given as goal

abbrev pub invariant-loop-row : goal.invariant-loop-row
invariant-loop-row l = l.places ≡ filter (λ row. slice_index_or l.keep row false) (range_with_len 0 l.row)
