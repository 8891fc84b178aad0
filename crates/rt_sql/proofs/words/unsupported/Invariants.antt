use Rattle.std.proofs.Common.{◌≡◌, length}
use Rattle.rt_sql.specs.Refusals.{unsupported}
use Rattle.rt_sql.proofs.words.unsupported.Given as goal

abbrev pub invariant-tokens : goal.invariant-tokens
invariant-tokens l = unsupported l.rest ≡ unsupported l.tokens

abbrev pub decreases-tokens : goal.decreases-tokens
decreases-tokens l = length l.rest
