use Rattle.std.proofs.Common.{◌≡◌, ◌∙◌, sym, ap, subst}
use Rattle.rt_io.specs.Ranges.{Command}
use Rattle.rt_top.specs.GivenUp.{IsVerdict}
use Rattle.rt_grade.specs.Grades.{beside}
use Rattle.rt_grade.proofs.JudgeLemmas.{no_budget, of_budget, of_parts}
use Rattle.rt_grade.proofs.judge.decided.Goals as goal

pub unreachable-requires : goal.unreachable-requires
unreachable-requires c =
    let same : c.words.inside.conflicts ≡ c.args.words.now.conflicts = ap (λ (w : Command). w.conflicts) c.words.view_is in
    no_budget c.args.words.now c.args.first.now c.args.right.now c.in-Spent.found
    (subst (IsVerdict (beside c.args.words.now c.args.first.now c.args.right.now)) c.in-Spent.is
    (of_parts c.args.words.now c.args.first.now c.args.right.now c.words.inside.conflicts c.in_ok-decide_prepared.field-0 same c.in_ok-decide_prepared.ensures.verdict))
    (sym same ∙ c.in-None.is)

pub returns-in-Never-clause-grade : goal.returns-in-Never-clause-grade
returns-in-Never-clause-grade c =
    let same : c.words.inside.conflicts ≡ c.args.words.now.conflicts = ap (λ (w : Command). w.conflicts) c.words.view_is in
    subst (IsVerdict (beside c.args.words.now c.args.first.now c.args.right.now)) c.in-Never.is
    (of_parts c.args.words.now c.args.first.now c.args.right.now c.words.inside.conflicts c.in_ok-decide_prepared.field-0 same c.in_ok-decide_prepared.ensures.verdict)

pub returns-in-Least-clause-grade : goal.returns-in-Least-clause-grade
returns-in-Least-clause-grade c =
    let same : c.words.inside.conflicts ≡ c.args.words.now.conflicts = ap (λ (w : Command). w.conflicts) c.words.view_is in
    subst (IsVerdict (beside c.args.words.now c.args.first.now c.args.right.now)) c.in-Least.is
    (of_parts c.args.words.now c.args.first.now c.args.right.now c.words.inside.conflicts c.in_ok-decide_prepared.field-0 same c.in_ok-decide_prepared.ensures.verdict)

pub returns-in-Some-clause-grade : goal.returns-in-Some-clause-grade
returns-in-Some-clause-grade c =
    let same : c.words.inside.conflicts ≡ c.args.words.now.conflicts = ap (λ (w : Command). w.conflicts) c.words.view_is in (
      sym same ∙ c.in-Some.is,
      of_budget c.args.words.now c.args.first.now c.args.right.now c.in-Spent.found c.in-Some.budget
          (subst (IsVerdict (beside c.args.words.now c.args.first.now c.args.right.now)) c.in-Spent.is
          (of_parts c.args.words.now c.args.first.now c.args.right.now c.words.inside.conflicts c.in_ok-decide_prepared.field-0 same c.in_ok-decide_prepared.ensures.verdict))
          (sym same ∙ c.in-Some.is),
    )
