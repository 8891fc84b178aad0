use Rattle.std.proofs.Common.{◌≡◌, length}
use Rattle.rt_load.specs.Integer.{without_blanks}
use Rattle.rt_load.proofs.integer.trimmed_start.Given as goal

abbrev pub invariant-loop-rest : goal.invariant-loop-rest
invariant-loop-rest l = without_blanks l.rest ≡ without_blanks l.bytes

abbrev pub decreases-loop-rest : goal.decreases-loop-rest
decreases-loop-rest l = length l.rest
