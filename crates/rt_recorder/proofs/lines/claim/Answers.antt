use Rattle.std.proofs.Common.{◌≡◌, ◌≢◌, subst}
use Rattle.std.specs.Prelude.{MatchBool}
use Rattle.rt_recorder.specs.Certificate.{agree}
use Rattle.rt_recorder.proofs.LineLemmas.{claim-none}
use Rattle.rt_recorder.proofs.lines.claim.Goals as goal

pub returns-in_default : goal.returns-in_default
returns-in_default c = claim-none c.args.line.now (subst (λ b. MatchBool b (c.args.line.now ≡ agree) (c.args.line.now ≢ agree)) c.if-is.false c.is.ensures) (c.in_default.ensures {u = tt})
