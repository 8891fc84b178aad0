use Rattle.std.proofs.Common.{◌∙◌, subst, arith}
use Rattle.rt_input.specs.Held.{Holding}
use Rattle.rt_grade.specs.Candidates.{IsGradeOf}
use Rattle.std.proofs.lemmas.Result.{err_from_is_err_and}
use Rattle.rt_grade.proofs.BegunLemmas.{fails_later, path_begun, path_read}
use Rattle.rt_grade.proofs.GradeLemmas.{one_more}
use Rattle.rt_grade.proofs.candidates.grade_each.Goals as goal

pub paths-preserved : goal.paths-preserved
paths-preserved g c =
    let tells = g.F.Files.tells in
    let w = c.args.words.now in
    let first = c.args.first.now in
    record {
      graded = one_more (IsGradeOf tells (g.F.Files.held c.args.files.now) w first) c.args.paths.now c.paths.grades c.push.new.self c.paths.path-index c.path-item.result c.in_ok-grade.grade
          c.paths-test.true c.path-item.is c.in_ok-push.ensures.ok c.paths.invariant.graded
          (subst (λ (h : Holding). IsGradeOf tells h w first c.path-item.result c.in_ok-grade.grade) c.paths.invariant.held c.in_ok-grade.ensures.ok);
      review = c.in_ok-grade.ensures.review;
      begun = path_read c.args.paths.now c.paths.path-index c.path-item.result c.paths-test.true c.path-item.is _ _ _ c.paths.invariant.begun c.in_ok-grade.ensures.begun_ok;
      has = c.in_ok-grade.ensures.has ∙ c.paths.invariant.has;
      held = c.in_ok-grade.ensures.held ∙ c.paths.invariant.held;
      rises = λ name. let a = c.paths.invariant.rises name in let b = c.in_ok-grade.ensures.rises.rises name in omega (arith, a, b);
    }

pub returns-in_err-grade-clause-begun : goal.returns-in_err-grade-clause-begun
returns-in_err-grade-clause-begun g c =
    path_begun c.args.paths.now c.paths.path-index c.path-item.result c.paths-test.true c.path-item.is _ _ _ c.paths.invariant.begun c.in_err-grade.ensures.begun

pub returns-in_err-grade-clause-last : goal.returns-in_err-grade-clause-last
returns-in_err-grade-clause-last g c =
    let p = err_from_is_err_and c.from_residual.result c.from_residual.ensures.1 in
    rw (p.1, p.2) (fails_later c.in_err-grade.field-0.0 (g.F.Files.begun c.args.files.now) (g.F.Files.begun c.paths.files)
    (g.F.Files.begun c.grade_file.new.files) _ c.paths.invariant.begun c.in_err-grade.ensures.last)
