use Rattle.std.proofs.Common.{◌≡◌, List, ℕ}
use Rattle.std.specs.Prelude.{Some}
use Rattle.rt_input.specs.Reading.{call}
use Rattle.rt_ra_run.specs.Answers.{IsTextOf, Row}
use Rattle.rt_ra_run.specs.Words.{ra_command}
use Rattle.rt_ra_run.specs.declared.verdicts.RaAnswer.{RaAnswer}
use Rattle.rt_ra_run.proofs.BegunLemmas.{spelled_begun}
use Rattle.rt_ra_run.proofs.RowLemmas.{if_ok}
use Rattle.rt_ra_run.proofs.run.prepare.Goals as goal

pub returns-in-Ok-clause-row : goal.returns-in-Ok-clause-row
returns-in-Ok-clause-row g c =
    let start = c.args.files.now in
    let end = c.answer-said.new.files in
    if_ok (λ (a : RaAnswer). (words : List (List ℕ)) → ra_command words ≡ Some c.in-Ok.command → Row (call g.F.Files words start end) a.outcome) (λ a. Row (call g.F.Files c.args.words.now start end) a.outcome) c.answer-said.result
    (λ a h. h c.args.words.now c.in-Ok.ensures.ok) c.answer-said.ensures.row

pub returns-in-Ok-clause-says : goal.returns-in-Ok-clause-says
returns-in-Ok-clause-says g c =
    let start = c.args.files.now in
    let end = c.answer-said.new.files in
    if_ok (λ (a : RaAnswer). (words : List (List ℕ)) → ra_command words ≡ Some c.in-Ok.command → IsTextOf (call g.F.Files words start end) a.outcome a.text) (λ a. IsTextOf (call g.F.Files c.args.words.now start end) a.outcome a.text) c.answer-said.result
    (λ a h. h c.args.words.now c.in-Ok.ensures.ok) c.answer-said.ensures.says

pub returns-in-Ok-clause-begun : goal.returns-in-Ok-clause-begun
returns-in-Ok-clause-begun g c =
    spelled_begun g.F.Files.tells (g.F.Files.held c.args.files.now) (ra_command c.args.words.now) c.in-Ok.command _ _ c.in-Ok.ensures.ok c.answer-said.ensures.begun
