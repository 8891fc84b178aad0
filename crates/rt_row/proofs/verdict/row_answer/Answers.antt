use Rattle.rt_input.specs.Reading.{call}
use Rattle.rt_row.proofs.RowLemmas.{answered}
use Rattle.rt_row.proofs.verdict.row_answer.Goals as goal

pub returns-in-Ok-clause-ok : goal.returns-in-Ok-clause-ok
returns-in-Ok-clause-ok g c =
    answered (call g.F.Files c.args.words.now c.args.files.now c.read_input.new.files) c.args.row.now c.in-Ok.input c.answer_on-answer.result c.or_outcome.result
    c.in-Ok.ensures.ok c.answer_on-answer.ensures c.or_outcome.ensures.ok
