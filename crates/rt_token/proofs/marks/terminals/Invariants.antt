use Rattle.std.proofs.Common.{◌≡◌, length}
use Rattle.rt_token.specs.Words.{kinds, marks}
use Rattle.rt_token.proofs.MarkLemmas.{with_front}
use Rattle.rt_token.proofs.marks.terminals.Given as goal

abbrev pub invariant-tokens : goal.invariant-tokens
invariant-tokens l = with_front l.items (marks (kinds l.rest)) ≡ marks (kinds l.tokens)

abbrev pub decreases-tokens : goal.decreases-tokens
decreases-tokens l = length l.rest
