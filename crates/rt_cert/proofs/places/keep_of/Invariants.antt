use Rattle.std.proofs.Common.{◌≡◌, ◌<◌, ℕ, false, take, length, slice_index_or}
use Rattle.rt_cert.specs.Places.{has_place}
use Rattle.rt_cert.proofs.places.keep_of.Given as goal

abbrev pub invariant-loop-place : goal.invariant-loop-place
invariant-loop-place l = record {
  long : length l.keep ≡ l.rows;
  kept : (row : ℕ) → row < l.rows → slice_index_or l.keep row false ≡ has_place (take l.place-index l.places) row;
}
