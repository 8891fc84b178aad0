use Rattle.std.proofs.Common.{ap, sym}
use Rattle.std.proofs.lemmas.Result.{IfOk-weaker}
use Rattle.rt_noted.specs.Known.{sought_test}
use Rattle.rt_noted.proofs.Layers.{exists_of, gate_at, member_of}
use Rattle.rt_noted.proofs.member.among.Goals as goal

pub returns-in-Some-clause-gate : goal.returns-in-Some-clause-gate
returns-in-Some-clause-gate c =
    IfOk-weaker c.member.result _ _ (λ g h answer i. gate_at (ap (λ x. sought_test x answer) (sym c.in-Some.is)) (member_of c.in-Some.x.now i h)) c.member.ensures.gate

pub returns-in-None-clause-gate : goal.returns-in-None-clause-gate
returns-in-None-clause-gate c =
    IfOk-weaker c.exists.result _ _ (λ g h answer i. gate_at (ap (λ x. sought_test x answer) (sym c.in-None.is)) (exists_of i h)) c.exists.ensures.gate
