use Rattle.std.proofs.Common.{Option, sym, subst}
use Rattle.rt_clause.specs.Literal.{Literal}
use Rattle.rt_solver.specs.Seeking.{IsNext}
use Rattle.rt_solver.proofs.next.choose.Goals as goal

pub returns-in-None-clause-next : goal.returns-in-None-clause-next
returns-in-None-clause-next c =
    let N : Option Literal → Type 0 = λ q. IsNext c.picked.new.decider c.args.trail.now.vars c.args.order q c.args.trail.now.steps c.picked.result in
    subst N (sym c.in-None.is) c.picked.ensures.next
