use Rattle.std.proofs.Common.{refl}
use Rattle.rt_grade.specs.GradeWords.{grade_words}
use Rattle.rt_grade.proofs.BegunLemmas.{none_graded}
use Rattle.rt_grade.proofs.grade_run.grades.Goals as goal

pub returns-in-Err-clause-begun : goal.returns-in-Err-clause-begun
returns-in-Err-clause-begun g c =
    none_graded g.F.Files.tells (g.F.Files.held c.args.files.now) (grade_words c.args.words.now) (g.F.Files.begun c.args.files.now) (g.F.Files.begun c.args.files.now) refl
