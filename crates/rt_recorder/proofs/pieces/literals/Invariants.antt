use Rattle.std.proofs.Common.{length}
use Rattle.rt_recorder.specs.Certificate.{IsNumber, literal}
use Rattle.rt_recorder.proofs.Spaced.{IsAlong}
use Rattle.rt_recorder.proofs.pieces.literals.Given as goal

abbrev pub invariant-pieces : goal.invariant-pieces
invariant-pieces l = IsAlong (λ x. IsNumber x.var) literal l.text l.out l.rest

abbrev pub decreases-pieces : goal.decreases-pieces
decreases-pieces l = length l.rest
