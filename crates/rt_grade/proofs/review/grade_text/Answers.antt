use Rattle.rt_grade.proofs.JudgeLemmas.{graded_on}
use Rattle.rt_grade.proofs.review.grade_text.Goals as goal

pub returns-in-Ok-clause-grade : goal.returns-in-Ok-clause-grade
returns-in-Ok-clause-grade c = graded_on c.args.words.now c.args.first.now c.args.text.now c.in-Ok.right c.grade.result c.in-Ok.ensures.ok c.grade.ensures.grade

pub returns-in-Err-Refused-clause-place : goal.returns-in-Err-Refused-clause-place
returns-in-Err-Refused-clause-place c = rw (c.in-Err-Refused.part-is, c.in-Err-Refused.fault-is) (rw c.in-Err-Refused.field-0-is at c.in-Err-Refused.ensures.place)
