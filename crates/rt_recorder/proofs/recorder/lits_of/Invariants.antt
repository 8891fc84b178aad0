use Rattle.std.proofs.Common.{◌≡◌, take}
use Rattle.std.specs.List.{All}
use Rattle.rt_recorder.specs.Certificate.{IsNumber}
use Rattle.rt_recorder.proofs.recorder.lits_of.Given as goal

abbrev pub invariant-loop-lit : goal.invariant-loop-lit
invariant-loop-lit l = record { same : l.copy ≡ take l.lit-index l.lits; small : All (λ x. IsNumber x.var) l.copy }
