use Rattle.rt_row.proofs.OneRowLemmas.{least_row-one, row-one}
use Rattle.rt_row.proofs.laws.row_answer_is_one.Goals as goal

pub returns : goal.returns
returns c = record { one = least_row-one; answer = row-one }
