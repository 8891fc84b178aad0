-- The state of a solver between calls.
use Rattle.std.specs.Prelude.{Bool}

-- whether an earlier call wanted memory: each later one then answers so too
abbrev pub has_failed : {L : Type 0} → L × Bool → Bool
has_failed solver = solver.1
