use Rattle.std.proofs.Common.{◌+◌, ◌∙◌, ap, sym, arith}
use Rattle.rt_solver.specs.Marking.{marked_by}
use Rattle.rt_store.specs.Trail.{oldest}
use Rattle.rt_solver.proofs.Walks.{step-var}
use Rattle.rt_solver.proofs.Gathering.{decision-under}
use Rattle.rt_solver.proofs.lead.decision_under.Goals as goal

pub is-requires : goal.is-requires
is-requires c =
    let v = step-var c.args.trail.now.vars c.args.trail.now.steps (oldest c.in_ok-stop.stop c.args.trail.now.steps) (c.in_ok-stop.stop + 1) c.at-step.result c.at-step.ensures.apart c.at-step.ensures.step in
    omega (arith, v, c.requires.marks, c.var.ensures.is)

pub returns : goal.returns
returns c =
    decision-under c.args.trail.now.steps (marked_by c.args.marks.now) c.args.place c.in_ok-stop.stop c.at-step.result c.at-step.ensures.step
    (ap (marked_by c.args.marks.now) (sym c.var.ensures.is) ∙ sym c.is.ensures ∙ c.if-is.false) c.in_ok-stop.ensures
