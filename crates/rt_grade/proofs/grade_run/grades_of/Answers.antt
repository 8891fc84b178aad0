use Rattle.rt_input.specs.Steps.{over}
use Rattle.rt_grade.proofs.BegunLemmas.{beside_begun, first_begun, if_fails_later}
use Rattle.rt_grade.proofs.FaultLemmas.{beside_fault, beside_result, first_stops}
use Rattle.rt_grade.proofs.grade_run.grades_of.Goals as goal

pub returns-in-Ok-clause-ok : goal.returns-in-Ok-clause-ok
returns-in-Ok-clause-ok g c =
    beside_result (over g.F.Files c.args.files.now c.grades_beside-graded.new.files) c.args.words.now c.in-Ok.first c.in-Ok.ensures.ok (g.F.Files.held c.read_first.new.files)
    (g.F.Files.faults c.read_first.new.files) c.in-Ok.ensures.held c.grades_beside-graded.result c.requires c.grades_beside-graded.ensures.ok

pub returns-in-Ok-clause-err : goal.returns-in-Ok-clause-err
returns-in-Ok-clause-err g c =
    beside_fault (over g.F.Files c.args.files.now c.grades_beside-graded.new.files) c.args.words.now c.in-Ok.first c.in-Ok.ensures.ok (g.F.Files.held c.read_first.new.files)
    (g.F.Files.faults c.read_first.new.files) c.in-Ok.ensures.held c.grades_beside-graded.result c.in-Ok.ensures.rises c.grades_beside-graded.ensures.err

pub returns-in-Err-clause-err : goal.returns-in-Err-clause-err
returns-in-Err-clause-err g c =
    first_stops (over g.F.Files c.args.files.now c.read_first.new.files) c.args.words.now c.in-Err.outcome c.in-Err.ensures.err c.in-Err.ensures.speaks c.in-Err.ensures.place

pub returns-in-Ok-clause-begun : goal.returns-in-Ok-clause-begun
returns-in-Ok-clause-begun g c =
    beside_begun g.F.Files.tells c.args.words.now (g.F.Files.held c.args.files.now) _ _ _ c.in-Ok.first (g.F.Files.held c.read_first.new.files) c.in-Ok.ensures.held c.in-Ok.ensures.ok
    c.in-Ok.ensures.begun_ok c.grades_beside-graded.ensures.begun

pub returns-in-Err-clause-begun : goal.returns-in-Err-clause-begun
returns-in-Err-clause-begun g c = first_begun g.F.Files.tells c.args.words.now (g.F.Files.held c.args.files.now) _ (g.F.Files.begun c.args.files.now) _ c.in-Err.ensures.begun

pub returns-in-Ok-clause-last : goal.returns-in-Ok-clause-last
returns-in-Ok-clause-last g c =
    if_fails_later c.grades_beside-graded.result (g.F.Files.begun c.args.files.now) (g.F.Files.begun c.read_first.new.files) (g.F.Files.begun c.grades_beside-graded.new.files) _
    c.in-Ok.ensures.begun_ok.named.1 c.grades_beside-graded.ensures.last
