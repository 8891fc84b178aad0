use Rattle.rt_grade.proofs.OneGradingLemmas.{grading-one}
use Rattle.rt_grade.proofs.SpellingLemmas.{alone_spelled}
use Rattle.rt_grade.proofs.laws.grading_is_one.Goals as goal

pub returns : goal.returns
returns c = record { spelled = alone_spelled; answer = grading-one }
