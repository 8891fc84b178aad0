use Rattle.std.proofs.lemmas.Result.{err_from_is_err_and}
use Rattle.rt_input.specs.Steps.{seen}
use Rattle.rt_ra_run.specs.Judged.{Reaches, data_in, data_judged, queries_judged}
use Rattle.rt_ra_run.proofs.BegunLemmas.{data_begun, queries_begun}
use Rattle.rt_ra_run.proofs.StepLemmas.{asked_stops, asked_told, if_placed_later, stops_first}
use Rattle.rt_ra_run.proofs.read.read_asked.Goals as goal

pub returns-in_err-tables-clause-err : goal.returns-in_err-tables-clause-err
returns-in_err-tables-clause-err g c =
    let p = err_from_is_err_and c.from_residual.result c.from_residual.ensures.1 in
    let start = c.args.files.now in
    let end = c.read_data.new.files in
    let k = c.args.command.now in
    let held = g.F.Files.held start in
    rw (p.1, p.2) (stops_first (seen g.F.Files.tells (g.F.Files.held start) (g.F.Files.faults start) (g.F.Files.faults end) (g.F.Files.current end) (g.F.Files.taken end)) k (data_judged k held) (queries_judged k held) (Reaches k held) (Reaches k held) c.in_err-tables.field-0.0 (λ x r. r) c.in_err-tables.ensures.err)

pub returns-in_err-tables-clause-place : goal.returns-in_err-tables-clause-place
returns-in_err-tables-clause-place g c =
    let p = err_from_is_err_and c.from_residual.result c.from_residual.ensures.1 in
    rw (p.1, p.2) c.in_err-tables.ensures.place

pub returns-clause-ok : goal.returns-clause-ok
returns-clause-ok g c = asked_told g.F.Files.tells (g.F.Files.held c.args.files.now) (g.F.Files.held c.read_data.new.files) c.args.command.now (data_in c.in_ok-tables.tables) c.read_queries.result
    c.in_ok-tables.ensures.held c.in_ok-tables.ensures.ok c.read_queries.ensures.ok

pub returns-clause-err : goal.returns-clause-err
returns-clause-err g c =
    let start = c.args.files.now in
    let mid = c.read_data.new.files in
    let end = c.read_queries.new.files in
    asked_stops g.F.Files.tells (g.F.Files.held start) (g.F.Files.held mid) (g.F.Files.faults start) (g.F.Files.faults mid) (g.F.Files.faults end) (g.F.Files.current end) (g.F.Files.taken end)
    c.args.command.now (data_in c.in_ok-tables.tables) c.read_queries.result c.in_ok-tables.ensures.held c.in_ok-tables.ensures.rises c.in_ok-tables.ensures.ok c.read_queries.ensures.err

pub returns-clause-place : goal.returns-clause-place
returns-clause-place g c = if_placed_later g.F.Files.tells c.args.command.now (g.F.Files.held c.args.files.now) (g.F.Files.held c.read_data.new.files) c.read_queries.result c.in_ok-tables.ensures.held c.read_queries.ensures.place

pub returns-in_err-tables-clause-begun : goal.returns-in_err-tables-clause-begun
returns-in_err-tables-clause-begun g c = data_begun g.F.Files.tells c.args.command.now (g.F.Files.held c.args.files.now) (g.F.Files.held c.read_data.new.files) _ (g.F.Files.begun c.args.files.now) _ c.read_data.ensures.begun

pub returns-clause-begun : goal.returns-clause-begun
returns-clause-begun g c =
    queries_begun g.F.Files.tells c.args.command.now (g.F.Files.held c.args.files.now) (g.F.Files.held c.read_data.new.files) _ _ _ (data_in c.in_ok-tables.tables) c.in_ok-tables.ensures.held c.in_ok-tables.ensures.ok
    c.in_ok-tables.ensures.begun_ok c.read_queries.ensures.begun c.read_queries.ensures.reached
