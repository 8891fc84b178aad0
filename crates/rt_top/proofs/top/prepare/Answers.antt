use Rattle.rt_input.specs.Begun.{EndsFor}
use Rattle.rt_io.specs.Command.{command}
use Rattle.rt_top.specs.declared.verdicts.Answer.{Answer}
use Rattle.rt_input.specs.Reading.{call}
use Rattle.rt_top.specs.Answers.{Judges, Row, IsTextOf}
use Rattle.rt_input.proofs.RowLemmas.{if_ok}
use Rattle.rt_top.proofs.VerdictLemmas.{verdict_ends, verdict_row, verdict_says}
use Rattle.rt_top.proofs.top.prepare.Goals as goal

pub returns-in-Ok-clause-row : goal.returns-in-Ok-clause-row
returns-in-Ok-clause-row g c =
    let it = call g.F.Files c.args.words.now c.args.files.now c.read_input.new.files in
    if_ok (λ (a : Answer). Judges c.in-Ok.input a.outcome a.text) (λ a. Row it a.outcome) c.verdict-answer.result
    (λ a judges. verdict_row it c.in-Ok.input a.outcome a.text c.in-Ok.ensures.ok judges) c.verdict-answer.ensures

pub returns-in-Ok-clause-says : goal.returns-in-Ok-clause-says
returns-in-Ok-clause-says g c =
    let it = call g.F.Files c.args.words.now c.args.files.now c.read_input.new.files in
    if_ok (λ (a : Answer). Judges c.in-Ok.input a.outcome a.text) (λ a. IsTextOf it a.outcome a.text) c.verdict-answer.result
    (λ a judges. verdict_says it c.in-Ok.input a.outcome a.text c.in-Ok.ensures.ok judges) c.verdict-answer.ensures

pub returns-in-Ok-clause-last : goal.returns-in-Ok-clause-last
returns-in-Ok-clause-last g c =
    let k = command c.args.words.now in
    let old = g.F.Files.begun c.args.files.now in
    let new = g.F.Files.begun c.read_input.new.files in
    if_ok (λ (a : Answer). Judges c.in-Ok.input a.outcome a.text) (λ a. EndsFor k a.outcome old new) c.verdict-answer.result
    (λ a judges. verdict_ends c.in-Ok.input a.outcome a.text k old new judges) c.verdict-answer.ensures
