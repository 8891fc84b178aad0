use Rattle.std.proofs.Common.{◌∙◌, ap, subst}
use Rattle.rt_io.specs.Ranges.{Command, IsInRange}
use Rattle.rt_input.specs.Judged.{within_limit}
use Rattle.rt_grade.specs.Grades.{beside}
use Rattle.rt_grade.proofs.JudgeLemmas.{accepted, decided_result, is_within}
use Rattle.rt_grade.proofs.judge.grade_query.Goals as goal

pub returns-clause-grade : goal.returns-clause-grade
returns-clause-grade c =
    let input = beside c.args.words.now c.args.first.now c.args.right.now in
    decided_result (within_limit input) input c.decided.result
    (is_within input c.work_between-work.result c.from.result c.work_between-work.ensures (c.from.ensures ∙ ap (λ (w : Command). w.work_limit) c.words.view_is) c.if-work-from.false)
    (accepted c.args.words.now c.args.first.now c.args.right.now (subst IsInRange c.words.view_is c.words.invariant) c.requires.sound c.requires.right c.requires.kinds)
    c.decided.ensures.grade
