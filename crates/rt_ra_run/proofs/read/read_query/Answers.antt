use Rattle.std.proofs.Common.{◌≡◌}
use Rattle.std.proofs.lemmas.Result.{err_from_is_err_and}
use Rattle.rt_input.specs.Source.{query_part}
use Rattle.rt_input.specs.Steps.{seen}
use Rattle.rt_ra_run.specs.Judged.{query_of, text_judged}
use Rattle.rt_ra_run.proofs.StepLemmas.{query_ok, query_placed, query_stops, stops_first}
use Rattle.rt_ra_run.proofs.read.read_query.Goals as goal

pub returns-in_err-text-clause-err : goal.returns-in_err-text-clause-err
returns-in_err-text-clause-err g c =
    let p = err_from_is_err_and c.from_residual.result c.from_residual.ensures.1 in
    let start = c.args.files.now in
    let end = c.query_text.new.files in
    let q = query_part c.args.part in
    rw (p.1, p.2) (stops_first (seen g.F.Files.tells (g.F.Files.held start) (g.F.Files.faults start) (g.F.Files.faults end) (g.F.Files.current end) (g.F.Files.taken end)) c.args.command.now
    (text_judged c.args.command.now (g.F.Files.held start) q) (query_of q c.args.schema.now) (λ x. x ≡ q) (λ x. x ≡ q) c.in_err-text.field-0.0 (λ x h. h) c.in_err-text.ensures.err)

pub returns-in_err-text-clause-place : goal.returns-in_err-text-clause-place
returns-in_err-text-clause-place g c =
    let p = err_from_is_err_and c.from_residual.result c.from_residual.ensures.1 in
    rw (p.1, p.2) (λ t. c.in_err-text.ensures.place c.args.command.now (g.F.Files.held c.args.files.now))

pub returns-clause-ok : goal.returns-clause-ok
returns-clause-ok g c = query_ok g.F.Files.tells c.args.command.now (g.F.Files.held c.args.files.now) (query_part c.args.part) c.part.result c.args.schema.now c.in_ok-text.text c.as_slice.result.now
    c.query_of.result c.part.ensures c.as_slice.ensures c.in_ok-text.ensures.ok c.query_of.ensures.ok

pub returns-clause-err : goal.returns-clause-err
returns-clause-err g c =
    let start = c.args.files.now in
    let end = c.query_text.new.files in
    query_stops (seen g.F.Files.tells (g.F.Files.held start) (g.F.Files.faults start) (g.F.Files.faults end) (g.F.Files.current end) (g.F.Files.taken end)) c.args.command.now (query_part c.args.part) c.part.result c.args.schema.now c.in_ok-text.text c.as_slice.result.now
    c.query_of.result c.part.ensures c.as_slice.ensures c.in_ok-text.ensures.ok c.query_of.ensures.err

pub returns-clause-place : goal.returns-clause-place
returns-clause-place g c = query_placed g.F.Files.tells c.args.command.now (g.F.Files.held c.args.files.now) (query_part c.args.part) c.part.result c.in_ok-text.text c.as_slice.result.now
    c.query_of.result c.part.ensures c.as_slice.ensures c.in_ok-text.ensures.ok c.query_of.ensures.place
