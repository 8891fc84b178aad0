use Rattle.ratest_c.proofs.FrameLemmas.{text_ok, text_err}
use Rattle.ratest_c.proofs.reader.Reader.text.Goals as goal

pub returns-in-Ok-clause-ok : goal.returns-in-Ok-clause-ok
returns-in-Ok-clause-ok c = text_ok c.args.self.now.rest.now _ _ _ c.in_ok-field.ensures.ok c.in-Ok.ensures.cases.0 c.in-Ok.ensures.cases.1

pub returns-in-Err-clause-err : goal.returns-in-Err-clause-err
returns-in-Err-clause-err c = λ _. text_err c.args.self.now.rest.now _ _ c.in_ok-field.ensures.ok c.in-Err.ensures.cases.0
