use Rattle.std.proofs.Common.{ℕ, ◌<◌, ◌+◌, ◌-◌, length}
use Rattle.std.specs.List.{slice_index}
use Rattle.rt_recorder.proofs.lines.is_rising.Given as goal

abbrev pub invariant-places : goal.invariant-places
invariant-places l = record { some : 0 < l.n; rising : (k : ℕ) → k + 1 < l.n → slice_index l.places k < slice_index l.places (k + 1) }

abbrev pub decreases-places : goal.decreases-places
decreases-places l = length l.places - l.n
