use Rattle.std.proofs.Common.{subst, sym}
use Rattle.rt_algebra.specs.declared.query.Query.{Query}
use Rattle.rt_grade.specs.Known.{IsQueryGrade}
use Rattle.rt_grade.proofs.KnownLemmas.{of_known, query_grade}
use Rattle.rt_grade.proofs.review.Review.grade.Goals as goal

pub returns-in-Some-clause-grade : goal.returns-in-Some-clause-grade
returns-in-Some-clause-grade c = of_known
    c.in_ok-grade.field-0 c.in-Some.grade c.as_slice.result.now c.args.self.now.known c.get.result.now c.args.words.now c.args.first.now c.args.right
    c.in-Some.is c.as_slice.ensures c.get.ensures c.in_ok-grade.ensures c.requires.review.known c.requires.right c.requires.kinds

pub returns-in_err-keep-clause-review : goal.returns-in_err-keep-clause-review
returns-in_err-keep-clause-review c =
    let words = c.args.words.now in
    let first = c.args.first.now in
    let Graded : Query → Type 0 = λ q. IsQueryGrade words first q c.in_ok-grade-2.grade in
    record {
      prepared = c.in_ok-grade-2.ensures.prepared;
      known = c.keep.ensures words first c.requires.review.known (subst Graded (sym c.into_query.ensures) (query_grade words first c.args.right c.in_ok-grade-2.grade c.in_ok-grade-2.ensures.grade));
    }

pub returns-clause-review : goal.returns-clause-review
returns-clause-review c =
    let words = c.args.words.now in
    let first = c.args.first.now in
    let Graded : Query → Type 0 = λ q. IsQueryGrade words first q c.in_ok-grade-2.grade in
    record {
      prepared = c.in_ok-grade-2.ensures.prepared;
      known = c.keep.ensures words first c.requires.review.known (subst Graded (sym c.into_query.ensures) (query_grade words first c.args.right c.in_ok-grade-2.grade c.in_ok-grade-2.ensures.grade));
    }
