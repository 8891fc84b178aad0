use Rattle.std.proofs.Common.{◌≡◌, List, ℕ}
use Rattle.std.specs.Prelude.{Some}
use Rattle.rt_input.specs.Reading.{call}
use Rattle.rt_ra_run.specs.Answers.{IsTextOf, Judged, Row}
use Rattle.rt_ra_run.specs.Words.{ra_command}
use Rattle.rt_ra_run.specs.declared.verdicts.RaAnswer.{RaAnswer}
use Rattle.rt_ra_run.proofs.RowLemmas.{if_ok, judged_row, judged_says, read_row}
use Rattle.rt_ra_run.proofs.run.answer.Goals as goal

pub returns-in-Ok-clause-row : goal.returns-in-Ok-clause-row
returns-in-Ok-clause-row g c =
    let start = c.args.files.now in
    let end = c.read_asked.new.files in
    if_ok (λ (a : RaAnswer). Judged c.in-Ok.asked a.outcome a.text) (λ a. (words : List (List ℕ)) → ra_command words ≡ Some c.args.command.now → Row (call g.F.Files words start end) a.outcome) c.judge-said.result
    (λ a judged words e. judged_row (call g.F.Files words start end) c.in-Ok.asked a.outcome a.text
    (read_row (call g.F.Files words start end) c.args.command.now c.in-Ok.asked e c.in-Ok.ensures.sound c.in-Ok.ensures.numbers c.in-Ok.ensures.ok) judged) c.judge-said.ensures

pub returns-in-Ok-clause-says : goal.returns-in-Ok-clause-says
returns-in-Ok-clause-says g c =
    let start = c.args.files.now in
    let end = c.read_asked.new.files in
    if_ok (λ (a : RaAnswer). Judged c.in-Ok.asked a.outcome a.text) (λ a. (words : List (List ℕ)) → ra_command words ≡ Some c.args.command.now → IsTextOf (call g.F.Files words start end) a.outcome a.text) c.judge-said.result
    (λ a judged words e. judged_says (call g.F.Files words start end) c.in-Ok.asked a.outcome a.text
    (read_row (call g.F.Files words start end) c.args.command.now c.in-Ok.asked e c.in-Ok.ensures.sound c.in-Ok.ensures.numbers c.in-Ok.ensures.ok) judged) c.judge-said.ensures
