use Rattle.std.proofs.Common.{◌≡◌, Ok}
use Rattle.std.proofs.lemmas.Result.{err_from_is_err_and}
use Rattle.rt_input.specs.Steps.{seen}
use Rattle.rt_input.specs.declared.part.Part.TheVariants as parts
use Rattle.rt_ra_run.specs.Asked.{IsLowered}
use Rattle.rt_ra_run.specs.Judged.{beside, query_judged}
use Rattle.rt_ra_run.specs.declared.query.Lowered.{Lowered}
use Rattle.rt_ra_run.proofs.StepLemmas.{if_placeless, same_holds, same_told, stops_first, tail_ok, tail_stops}
use Rattle.rt_ra_run.proofs.read.read_right.Goals as goal

pub returns-in_err-right-clause-err : goal.returns-in_err-right-clause-err
returns-in_err-right-clause-err g c =
    let p = err_from_is_err_and c.from_residual.result c.from_residual.ensures.1 in
    let start = c.args.files.now in
    let end = c.read_query.new.files in
    rw (p.1, p.2) (stops_first (seen g.F.Files.tells (g.F.Files.held start) (g.F.Files.faults start) (g.F.Files.faults end) (g.F.Files.current end) (g.F.Files.taken end)) c.args.command.now
    (query_judged c.args.command.now (g.F.Files.held start) parts.Query2 c.args.schema.now) (beside c.args.left.now) (λ x. x ≡ parts.Query2) (λ x. x ≡ parts.Query2) c.in_err-right.field-0.0 (λ x h. h) c.in_err-right.ensures.err)

pub returns-in_err-right-clause-place : goal.returns-in_err-right-clause-place
returns-in_err-right-clause-place g c =
    let p = err_from_is_err_and c.from_residual.result c.from_residual.ensures.1 in
    rw (p.1, p.2) c.in_err-right.ensures.place

pub returns-clause-sound : goal.returns-clause-sound
returns-clause-sound g c = same_holds (IsLowered c.args.schema.now) (λ (q : Lowered). beside c.args.left.now c.in_ok-right.right ≡ Ok q) c.in_ok-right.right c.beside.result c.in_ok-right.ensures.sound c.beside.ensures.ok

pub returns-clause-ok : goal.returns-clause-ok
returns-clause-ok g c = tail_ok g.F.Files.tells (query_judged c.args.command.now (g.F.Files.held c.args.files.now) parts.Query2 c.args.schema.now) (beside c.args.left.now) c.in_ok-right.right c.beside.result
    c.in_ok-right.ensures.ok (same_told (λ (q : Lowered). beside c.args.left.now c.in_ok-right.right ≡ Ok q) c.in_ok-right.right c.beside.result c.beside.ensures.ok)

pub returns-clause-err : goal.returns-clause-err
returns-clause-err g c =
    let start = c.args.files.now in
    let end = c.read_query.new.files in
    tail_stops (seen g.F.Files.tells (g.F.Files.held start) (g.F.Files.faults start) (g.F.Files.faults end) (g.F.Files.current end) (g.F.Files.taken end)) c.args.command.now (query_judged c.args.command.now (g.F.Files.held start) parts.Query2 c.args.schema.now) (beside c.args.left.now) c.in_ok-right.right (λ x. x ≡ parts.Query2) c.beside.result
    c.in_ok-right.ensures.ok c.beside.ensures.err

pub returns-clause-place : goal.returns-clause-place
returns-clause-place g c = if_placeless g.F.Files.tells c.args.command.now (g.F.Files.held c.args.files.now) c.beside.result c.beside.ensures.place
