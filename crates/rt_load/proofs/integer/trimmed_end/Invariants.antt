use Rattle.std.proofs.Common.{length, ◌≡◌, ◌≤◌, take, reverse}
use Rattle.rt_load.specs.Integer.{without_blanks}
use Rattle.rt_load.proofs.integer.trimmed_end.Given as goal

abbrev pub invariant-loop-to : goal.invariant-loop-to
invariant-loop-to l = (l.to ≤ length l.bytes) × (without_blanks (reverse (take l.to l.bytes)) ≡ without_blanks (reverse l.bytes))

abbrev pub decreases-loop-to : goal.decreases-loop-to
decreases-loop-to l = l.to
