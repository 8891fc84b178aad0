use Rattle.std.proofs.Common.{◌≡◌, ◌∷◌, [], Ok}
use Rattle.std.proofs.lemmas.Result.{err_from_is_err_and}
use Rattle.rt_input.specs.Steps.{seen}
use Rattle.rt_ra_run.specs.Asked.{HasNumbers, IsAsked, IsMeant}
use Rattle.rt_ra_run.specs.Judged.{data_in, within_judged}
use Rattle.rt_ra_run.specs.declared.asked.Asked.{Asked}
use Rattle.rt_io.proofs.AddLemmas.{adds_first, adds_then}
use Rattle.rt_ra_run.proofs.AskedLemmas.{asked_numbers}
use Rattle.rt_ra_run.proofs.BegunLemmas.{right_reached}
use Rattle.rt_ra_run.proofs.StepLemmas.{if_placeless, left_stops, placed_later, right_stops, same_holds, within_stops, within_told}
use Rattle.rt_ra_run.proofs.read.read_queries.Goals as goal

pub returns-in_err-left-clause-err : goal.returns-in_err-left-clause-err
returns-in_err-left-clause-err g c =
    let p = err_from_is_err_and c.from_residual.result c.from_residual.ensures.1 in
    let start = c.args.files.now in
    let end = c.read_query.new.files in
    rw (p.1, p.2) (left_stops (seen g.F.Files.tells (g.F.Files.held start) (g.F.Files.faults start) (g.F.Files.faults end) (g.F.Files.current end) (g.F.Files.taken end)) c.args.command.now (data_in c.args.tables) c.in_err-left.field-0.0 c.in_err-left.ensures.err)

pub returns-in_err-left-clause-place : goal.returns-in_err-left-clause-place
returns-in_err-left-clause-place g c =
    let p = err_from_is_err_and c.from_residual.result c.from_residual.ensures.1 in
    rw (p.1, p.2) c.in_err-left.ensures.place

pub returns-in_err-right-clause-err : goal.returns-in_err-right-clause-err
returns-in_err-right-clause-err g c =
    let p = err_from_is_err_and c.from_residual-in_err-right.result c.from_residual-in_err-right.ensures.1 in
    let start = c.args.files.now in
    let mid = c.read_query.new.files in
    let end = c.read_right.new.files in
    rw (p.1, p.2) (right_stops g.F.Files.tells (g.F.Files.held start) (g.F.Files.held mid) (g.F.Files.faults start) (g.F.Files.faults mid) (g.F.Files.faults end) (g.F.Files.current end) (g.F.Files.taken end)
    c.args.command.now (data_in c.args.tables) c.in_ok-left.left c.in_err-right.field-0.0 c.in_ok-left.ensures.held c.in_ok-left.ensures.rises c.in_ok-left.ensures.ok c.in_err-right.ensures.err)

pub returns-in_err-right-clause-place : goal.returns-in_err-right-clause-place
returns-in_err-right-clause-place g c =
    let p = err_from_is_err_and c.from_residual-in_err-right.result c.from_residual-in_err-right.ensures.1 in
    let start = c.args.files.now in
    let mid = c.read_query.new.files in
    rw (p.1, p.2) (λ t. placed_later c.args.command.now (g.F.Files.held start) (g.F.Files.held mid) c.in_err-right.field-0.0 c.in_ok-left.ensures.held (c.in_err-right.ensures.place t))

pub returns-clause-sound : goal.returns-clause-sound
returns-clause-sound g c = same_holds IsAsked (λ (a : Asked). within_judged c.asked_of.result ≡ Ok a) c.asked_of.result c.within.result c.asked_of.ensures.sound c.within.ensures.ok

pub returns-clause-means : goal.returns-clause-means
returns-clause-means g c = same_holds IsMeant (λ (a : Asked). within_judged c.asked_of.result ≡ Ok a) c.asked_of.result c.within.result c.asked_of.ensures.means c.within.ensures.ok

pub returns-clause-numbers : goal.returns-clause-numbers
returns-clause-numbers g c = same_holds (HasNumbers c.args.command.now) (λ (a : Asked). within_judged c.asked_of.result ≡ Ok a) c.asked_of.result c.within.result
    (asked_numbers c.args.command.now c.args.tables c.in_ok-left.left c.in_ok-right.right c.asked_of.result c.asked_of.ensures.value) c.within.ensures.ok

pub returns-clause-ok : goal.returns-clause-ok
returns-clause-ok g c = within_told g.F.Files.tells (g.F.Files.held c.args.files.now) (g.F.Files.held c.read_query.new.files) c.args.command.now (data_in c.args.tables) c.in_ok-left.left c.in_ok-right.right c.asked_of.result c.within.result
    c.in_ok-left.ensures.held c.in_ok-left.ensures.ok c.in_ok-right.ensures.ok c.asked_of.ensures.value c.within.ensures.ok

pub returns-clause-err : goal.returns-clause-err
returns-clause-err g c =
    let start = c.args.files.now in
    let end = c.read_right.new.files in
    within_stops g.F.Files.tells (g.F.Files.held c.args.files.now) (g.F.Files.held c.read_query.new.files) (g.F.Files.faults start) (g.F.Files.faults end) (g.F.Files.current end) (g.F.Files.taken end) c.args.command.now (data_in c.args.tables) c.in_ok-left.left c.in_ok-right.right c.asked_of.result c.within.result
    c.in_ok-left.ensures.held c.in_ok-left.ensures.ok c.in_ok-right.ensures.ok c.asked_of.ensures.value c.within.ensures.err

pub returns-clause-place : goal.returns-clause-place
returns-clause-place g c = if_placeless g.F.Files.tells c.args.command.now (g.F.Files.held c.args.files.now) c.within.result c.within.ensures.place

pub returns-in_err-left-clause-begun : goal.returns-in_err-left-clause-begun
returns-in_err-left-clause-begun g c = adds_first _ _ (c.args.command.now.query1 ∷ []) (c.args.command.now.query2 ∷ []) c.read_query.ensures.begun

pub returns-in_err-left-clause-reached : goal.returns-in_err-left-clause-reached
returns-in_err-left-clause-reached g c = λ t. adds_first _ _ (c.args.command.now.query1 ∷ []) _ c.read_query.ensures.begun

pub returns-in_err-right-clause-begun : goal.returns-in_err-right-clause-begun
returns-in_err-right-clause-begun g c = adds_then _ _ _ (c.args.command.now.query1 ∷ []) (c.args.command.now.query2 ∷ []) c.in_ok-left.ensures.begun_ok c.read_right.ensures.begun

pub returns-in_err-right-clause-reached : goal.returns-in_err-right-clause-reached
returns-in_err-right-clause-reached g c = λ t.
    right_reached c.args.command.now (g.F.Files.held c.args.files.now) (data_in c.args.tables) c.in_ok-left.left _ _ _ (c.in_ok-left.ensures.ok t) c.in_ok-left.ensures.begun_ok c.read_right.ensures.begun

pub returns-clause-begun : goal.returns-clause-begun
returns-clause-begun g c = adds_then _ _ _ (c.args.command.now.query1 ∷ []) (c.args.command.now.query2 ∷ []) c.in_ok-left.ensures.begun_ok c.read_right.ensures.begun

pub returns-clause-reached : goal.returns-clause-reached
returns-clause-reached g c = λ t.
    right_reached c.args.command.now (g.F.Files.held c.args.files.now) (data_in c.args.tables) c.in_ok-left.left _ _ _ (c.in_ok-left.ensures.ok t) c.in_ok-left.ensures.begun_ok c.read_right.ensures.begun
