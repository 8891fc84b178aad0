use Rattle.rt_ra_run.proofs.OneLemmas.{answer-one, smallest-one}
use Rattle.rt_ra_run.proofs.laws.ra_answer_is_one.Goals as goal

pub returns : goal.returns
returns c = record { one = smallest-one; answer = answer-one }
