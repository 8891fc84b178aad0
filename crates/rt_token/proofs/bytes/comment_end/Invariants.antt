use Rattle.std.proofs.Common.{◌≡◌, ◌+◌, length}
use Rattle.std.specs.Prelude.{option_map}
use Rattle.rt_token.specs.Lexed.{comment_end}
use Rattle.rt_token.proofs.bytes.comment_end.Given as goal

abbrev pub invariant-loop-z : goal.invariant-loop-z
invariant-loop-z l = (option_map (λ k. k + l.n) (comment_end l.z) ≡ comment_end l.text) × (l.n + length l.z ≡ length l.text)

abbrev pub decreases-loop-z : goal.decreases-loop-z
decreases-loop-z l = length l.z
