use Rattle.std.proofs.Common.{◌≡◌, ◌∙◌, Ok, ap, refl, sym}
use Rattle.std.proofs.lemmas.Result.{err_from_is_err_and}
use Rattle.rt_io.specs.Gave.{Fits}
use Rattle.rt_io.proofs.GaveLemmas.{adds_on, fits_first, fits_then}
use Rattle.rt_input.specs.Accepted.{Accepted}
use Rattle.rt_input.specs.Held.{Holding}
use Rattle.rt_input.specs.Judged.{Reaches, input_judged, within_limit}
use Rattle.rt_input.specs.Source.{IsKnown}
use Rattle.rt_input.specs.Steps.{Refuses, Stops, seen}
use Rattle.rt_input.proofs.BegunLemmas.{input_begun, right_begun, right_stops as first_stops_begun, when_ok}
use Rattle.rt_input.proofs.EndLemmas.{ends_after_all, if_work}
use Rattle.rt_input.proofs.StepLemmas.{first_stops, if_err, judged_all, right_stops, stops_refused}
use Rattle.rt_input.proofs.RowLemmas.{if_ok}
use Rattle.rt_input.proofs.read.read_source.Goals as goal

pub returns-in_err-first-clause-err : goal.returns-in_err-first-clause-err
returns-in_err-first-clause-err g c =
    let p = err_from_is_err_and c.from_residual.result c.from_residual.ensures.1 in
    let start = c.args.files.now in
    let end = c.first_of.new.files in
    rw (p.1, p.2) (first_stops g.F.Files.tells (g.F.Files.held start) (g.F.Files.faults start) (g.F.Files.faults end) (g.F.Files.current end) (g.F.Files.taken end)
    c.args.source.now c.args.words.now c.in_err-first.field-0.0 c.requires c.in_err-first.ensures.err)

pub returns-in-Ok-clause-ok : goal.returns-in-Ok-clause-ok
returns-in-Ok-clause-ok g c =
    let k = c.args.words.now in
    let source = c.args.source.now in
    let input = c.input_of.result in
    let held = g.F.Files.held c.args.files.now in
    if_ok (λ (same : Accepted). (same ≡ input) × (within_limit input ≡ Ok same)) (λ same. IsKnown g.F.Files.tells source → input_judged held k ≡ Ok same) c.within_limit.result
    (λ same told t. judged_all held (g.F.Files.held c.first_of.new.files) source k c.in_ok-first.first c.in-Ok.right c.requires c.in_ok-first.ensures.held
    (c.in_ok-first.ensures.ok t) (c.in-Ok.ensures.ok t) ∙ ap within_limit (sym c.input_of.ensures.same) ∙ told.1)
    c.within_limit.ensures.ok

pub returns-in-Ok-clause-given : goal.returns-in-Ok-clause-given
returns-in-Ok-clause-given g c =
    let k = c.args.words.now in
    let source = c.args.source.now in
    let input = c.input_of.result in
    let gave = g.F.Files.gave in
    if_ok (λ (same : Accepted). (same ≡ input) × (within_limit input ≡ Ok same))
    (λ same. (held : Holding) → Fits held (gave c.args.files.now) (gave c.read_right.new.files) → input_judged held k ≡ Ok same) c.within_limit.result
    (λ same told held fits. judged_all held held source k c.in_ok-first.first c.in-Ok.right c.requires refl
    (c.in_ok-first.ensures.given held (fits_first held _ _ _ c.read_right.ensures.adds fits)) (c.in-Ok.ensures.given held (fits_then held _ _ _ c.in_ok-first.ensures.adds fits))
    ∙ ap within_limit (sym c.input_of.ensures.same) ∙ told.1)
    c.within_limit.ensures.ok

pub returns-in-Ok-clause-adds : goal.returns-in-Ok-clause-adds
returns-in-Ok-clause-adds g c = adds_on _ _ _ c.in_ok-first.ensures.adds c.read_right.ensures.adds

pub returns-in-Err-clause-adds : goal.returns-in-Err-clause-adds
returns-in-Err-clause-adds g c = adds_on _ _ _ c.in_ok-first.ensures.adds c.read_right.ensures.adds

pub returns-in-Ok-clause-err : goal.returns-in-Ok-clause-err
returns-in-Ok-clause-err g c =
    let k = c.args.words.now in
    let source = c.args.source.now in
    let input = c.input_of.result in
    let start = c.args.files.now in
    let held = g.F.Files.held start in
    let end = c.read_right.new.files in
    let s = seen g.F.Files.tells held (g.F.Files.faults start) (g.F.Files.faults end) (g.F.Files.current end) (g.F.Files.taken end) in
    if_err (Refuses (within_limit input)) (Stops s source (input_judged held k) (Reaches source held)) c.within_limit.result
    (λ o refuses. stops_refused s source (within_limit input) (input_judged held k) (Reaches source held) o
    (λ t e err. judged_all held (g.F.Files.held c.first_of.new.files) source k c.in_ok-first.first c.in-Ok.right c.requires c.in_ok-first.ensures.held
    (c.in_ok-first.ensures.ok t) (c.in-Ok.ensures.ok t) ∙ ap within_limit (sym c.input_of.ensures.same) ∙ err) refuses)
    c.within_limit.ensures.err

pub returns-in-Ok-clause-begun : goal.returns-in-Ok-clause-begun
returns-in-Ok-clause-begun g c =
    right_begun g.F.Files.tells c.args.source.now (g.F.Files.held c.args.files.now) _ _ _ c.in_ok-first.first c.in_ok-first.ensures.ok c.in_ok-first.ensures.begun_ok c.read_right.ensures.begun

pub returns-in-Err-clause-err : goal.returns-in-Err-clause-err
returns-in-Err-clause-err g c =
    let start = c.args.files.now in
    let mid = c.first_of.new.files in
    let end = c.read_right.new.files in
    right_stops g.F.Files.tells (g.F.Files.held start) (g.F.Files.held mid) (g.F.Files.faults start) (g.F.Files.faults mid) (g.F.Files.faults end) (g.F.Files.current end) (g.F.Files.taken end)
    c.args.source.now c.args.words.now c.in_ok-first.first c.in-Err.outcome c.requires c.in_ok-first.ensures.held c.in_ok-first.ensures.rises c.in_ok-first.ensures.ok c.in-Err.ensures.err

pub returns-in-Err-clause-begun : goal.returns-in-Err-clause-begun
returns-in-Err-clause-begun g c =
    right_begun g.F.Files.tells c.args.source.now (g.F.Files.held c.args.files.now) _ _ _ c.in_ok-first.first c.in_ok-first.ensures.ok c.in_ok-first.ensures.begun_ok c.read_right.ensures.begun

pub returns-in_err-first-clause-begun : goal.returns-in_err-first-clause-begun
returns-in_err-first-clause-begun g c =
    first_stops_begun g.F.Files.tells c.args.source.now (g.F.Files.held c.args.files.now) (g.F.Files.begun c.args.files.now) (g.F.Files.begun c.args.files.now) _ c.first_of.ensures.begun

pub returns-in-Ok-clause-begun_ok : goal.returns-in-Ok-clause-begun_ok
returns-in-Ok-clause-begun_ok g c = when_ok c.within_limit.result
    (input_begun g.F.Files.tells c.args.source.now (g.F.Files.held c.args.files.now) _ _ _ c.in_ok-first.first c.in_ok-first.ensures.ok c.in_ok-first.ensures.begun_ok c.in-Ok.ensures.begun_ok)

pub returns-in-Ok-clause-last : goal.returns-in-Ok-clause-last
returns-in-Ok-clause-last g c =
    if_work c.args.source.now c.within_limit.result c.input_of.result (g.F.Files.begun c.args.files.now) (g.F.Files.begun c.read_right.new.files) c.within_limit.ensures.err

pub returns-in-Err-clause-last : goal.returns-in-Err-clause-last
returns-in-Err-clause-last g c =
    ends_after_all c.args.source.now _ _ _ c.in-Err.outcome (g.F.Files.begun c.args.files.now) (g.F.Files.begun c.first_of.new.files) (g.F.Files.begun c.read_right.new.files)
    c.in_ok-first.ensures.begun_ok c.in-Err.ensures.last
