use Rattle.std.proofs.Common.{subst}
use Rattle.rt_cert.specs.Claims.{IsClaim}
use Rattle.rt_cert.proofs.ClaimLemmas.{check-judged, no-fault}
use Rattle.rt_cert.proofs.checking.check.Goals as goal

pub returns-in_ok-encoded-in-Stands-clause-judged : goal.returns-in_ok-encoded-in-Stands-clause-judged
returns-in_ok-encoded-in-Stands-clause-judged c =
    check-judged c.args.input.now c.args.cert.now c.in-Stands.keep c.in_ok-encoded-in-Stands.encoded c.judge.result
    (subst (IsClaim c.args.input.now c.args.cert.now.keep) c.in-Stands.is c.in_ok-why.ensures) c.in_ok-encoded-in-Stands.ensures c.judge.ensures

pub returns-in_ok-encoded-in-Stands-clause-claim : goal.returns-in_ok-encoded-in-Stands-clause-claim
returns-in_ok-encoded-in-Stands-clause-claim c = λ why is. absurd (no-fault c.args.input.now c.args.cert.now.keep c.in-Stands.keep why (subst (IsClaim c.args.input.now c.args.cert.now.keep) c.in-Stands.is c.in_ok-why.ensures) is)
