use Rattle.std.proofs.Common.{◌≢◌, ◌≤◌, ◌-◌, length, take}
use Rattle.std.specs.List.{AllByRecursion as Each}
use Rattle.rt_recorder.proofs.pieces.span.Given as goal

abbrev pub invariant-bytes : goal.invariant-bytes
invariant-bytes l = record { within : l.n ≤ length l.text; free : Each (λ b. b ≢ l.at) (take l.n l.text) }

abbrev pub decreases-bytes : goal.decreases-bytes
decreases-bytes l = length l.text - l.n
