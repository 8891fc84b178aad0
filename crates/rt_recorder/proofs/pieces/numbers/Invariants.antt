use Rattle.std.proofs.Common.{length}
use Rattle.std.specs.Fmt.{decimal}
use Rattle.rt_recorder.specs.Certificate.{IsNumber}
use Rattle.rt_recorder.proofs.Spaced.{IsAlong}
use Rattle.rt_recorder.proofs.pieces.numbers.Given as goal

abbrev pub invariant-pieces : goal.invariant-pieces
invariant-pieces l = IsAlong IsNumber decimal l.text l.out l.rest

abbrev pub decreases-pieces : goal.decreases-pieces
decreases-pieces l = length l.rest
