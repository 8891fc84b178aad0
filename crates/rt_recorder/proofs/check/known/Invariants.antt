use Rattle.std.proofs.Common.{◌≡◌, ◌<◌, take}
use Rattle.std.specs.List.{All}
use Rattle.rt_recorder.proofs.check.known.Given as goal

abbrev pub invariant-loop-hint : goal.invariant-loop-hint
invariant-loop-hint l = record { same : l.out ≡ take l.hint-index l.hints; known : All (λ h. h < l.lines) (take l.hint-index l.hints) }
