use Rattle.std.proofs.Common.{arith}
use Rattle.rt_token.proofs.LexLemmas.{comment-short}
use Rattle.rt_token.proofs.bytes.comment_end.Goals as goal

pub returns-clause-value : goal.returns-clause-value
returns-clause-value c = let e = comment-short c.loop-z.z.now (omega (arith, c.in_default.len_below)) in rw (← e) at c.loop-z.invariant.0
