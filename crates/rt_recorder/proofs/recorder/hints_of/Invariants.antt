use Rattle.std.proofs.Common.{◌≡◌, take}
use Rattle.std.specs.List.{All}
use Rattle.rt_recorder.specs.Certificate.{IsNumber}
use Rattle.rt_recorder.proofs.recorder.hints_of.Given as goal

abbrev pub invariant-loop-hint : goal.invariant-loop-hint
invariant-loop-hint l = record { same : l.copy ≡ take l.hint-index l.hints; small : All IsNumber l.copy }
