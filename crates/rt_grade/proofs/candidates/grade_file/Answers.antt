use Rattle.std.proofs.Common.{subst}
use Rattle.rt_input.specs.Source.{Text}
use Rattle.rt_grade.specs.Grades.{IsGrade, IsPlacedIn, candidate_judged, outcome_of}
use Rattle.rt_grade.proofs.FaultLemmas.{of_text}
use Rattle.rt_grade.proofs.candidates.grade_file.Goals as goal

pub returns-in-Ok-clause-ok : goal.returns-in-Ok-clause-ok
returns-in-Ok-clause-ok g c =
    let grade = c.in_ok-grade_text-in-Ok.field-0 in
    of_text g.F.Files.tells (g.F.Files.held c.args.files.now) c.args.words.now c.args.first.now c.args.path.now c.in-Ok.text grade c.in-Ok.ensures.ok
    (subst (λ (t : Text). IsGrade (candidate_judged c.args.words.now c.args.first.now t) grade) c.as_slice.ensures c.in_ok-grade_text-in-Ok.ensures.grade)
    (subst (λ (t : Text). IsPlacedIn t (outcome_of grade)) c.as_slice.ensures c.in_ok-grade_text-in-Ok.ensures.place)
