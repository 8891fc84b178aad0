use Rattle.std.proofs.Common.{subst, sym}
use Rattle.rt_formula.specs.Shared.{Shared}
use Rattle.rt_grade.specs.Prepared.{IsPreparedOf}
use Rattle.rt_grade.proofs.prepared.Prepared.decide.Goals as goal

pub returns-clause-prepared : goal.returns-clause-prepared
returns-clause-prepared c =
    let before = c.args.self.now in
    subst (λ (d : Shared). IsPreparedOf c.args.first.now (record { dag = d; reference = before.reference })) (sym c.decide_beside.ensures.dag) c.requires.prepared
