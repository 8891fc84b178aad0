use Rattle.std.proofs.Common.{ap, sym}
use Rattle.std.proofs.lemmas.Result.{IfOk-weaker}
use Rattle.rt_noted.specs.Known.{sought_test}
use Rattle.rt_noted.proofs.Growing.{grown_refl}
use Rattle.rt_noted.proofs.Layers.{gate_at}
use Rattle.rt_noted.proofs.known.Found.gate.Goals as goal

pub returns-in-Some-clause-gate : goal.returns-in-Some-clause-gate
returns-in-Some-clause-gate c =
    IfOk-weaker c.member.result _ _ (λ g h answer tells. gate_at (ap (λ x. sought_test x answer) (sym c.in-Some.is)) (h answer tells)) c.member.ensures.gate

pub returns-in-None-clause-grown : goal.returns-in-None-clause-grown
returns-in-None-clause-grown c = grown_refl _

pub returns-in-None-clause-gate : goal.returns-in-None-clause-gate
returns-in-None-clause-gate c answer tells = gate_at (ap (λ x. sought_test x answer) (sym c.in-None.is)) tells.exists
