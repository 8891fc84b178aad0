use Rattle.std.proofs.Common.{◌≡◌, length}
use Rattle.rt_token.specs.Places.{end_or}
use Rattle.rt_token.proofs.place.end.Given as goal

abbrev pub invariant-tokens : goal.invariant-tokens
invariant-tokens l = end_or l.end l.rest ≡ end_or 0 l.tokens

abbrev pub decreases-tokens : goal.decreases-tokens
decreases-tokens l = length l.rest
