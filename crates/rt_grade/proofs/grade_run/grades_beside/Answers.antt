use Rattle.std.proofs.Common.{List, subst}
use Rattle.std.proofs.lemmas.Result.{err_from_is_err_and}
use Rattle.rt_io.specs.Edge.{AddsPrefix}
use Rattle.rt_input.specs.Source.{Text}
use Rattle.rt_grade.proofs.BegunLemmas.{candidates_begun, fails_later, list_begun}
use Rattle.rt_grade.proofs.grade_run.grades_beside.Goals as goal

pub returns-in_err-paths-clause-begun : goal.returns-in_err-paths-clause-begun
returns-in_err-paths-clause-begun g c =
    list_begun g.F.Files.tells c.args.words.now (g.F.Files.held c.args.files.now) (g.F.Files.begun c.args.files.now) (g.F.Files.begun c.args.files.now)
    (g.F.Files.begun c.read_list.new.files) c.in_err-paths.ensures.begun

pub returns-in_err-grades-clause-begun : goal.returns-in_err-grades-clause-begun
returns-in_err-grades-clause-begun g c =
    candidates_begun g.F.Files.tells c.args.words.now (g.F.Files.held c.args.files.now) (g.F.Files.begun c.args.files.now) (g.F.Files.begun c.read_list.new.files)
    (g.F.Files.begun c.grade_files.new.files) c.in_ok-paths.paths c.in_ok-paths.ensures.begun_ok c.in_ok-paths.ensures.ok
    (subst (λ (paths : List Text). AddsPrefix (g.F.Files.begun c.read_list.new.files) (g.F.Files.begun c.grade_files.new.files) paths) c.as_slice.ensures c.grade_files.ensures.begun)

pub returns-clause-begun : goal.returns-clause-begun
returns-clause-begun g c =
    candidates_begun g.F.Files.tells c.args.words.now (g.F.Files.held c.args.files.now) (g.F.Files.begun c.args.files.now) (g.F.Files.begun c.read_list.new.files)
    (g.F.Files.begun c.grade_files.new.files) c.in_ok-paths.paths c.in_ok-paths.ensures.begun_ok c.in_ok-paths.ensures.ok
    (subst (λ (paths : List Text). AddsPrefix (g.F.Files.begun c.read_list.new.files) (g.F.Files.begun c.grade_files.new.files) paths) c.as_slice.ensures c.grade_files.ensures.begun)

pub returns-in_err-grades-clause-last : goal.returns-in_err-grades-clause-last
returns-in_err-grades-clause-last g c =
    let p = err_from_is_err_and c.from_residual-in_err-grades.result c.from_residual-in_err-grades.ensures.1 in
    rw (p.1, p.2) (fails_later c.in_err-grades.field-0.0 (g.F.Files.begun c.args.files.now) (g.F.Files.begun c.read_list.new.files)
    (g.F.Files.begun c.grade_files.new.files) _ c.in_ok-paths.ensures.begun_ok c.in_err-grades.ensures.last)
