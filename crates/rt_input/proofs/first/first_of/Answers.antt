use Rattle.std.proofs.Common.{Ok, sym}
use Rattle.std.proofs.lemmas.Result.{err_from_is_err_and}
use Rattle.rt_io.proofs.GaveLemmas.{adds_on, fits_first, fits_then}
use Rattle.rt_input.specs.Judged.{data_judged, query_judged}
use Rattle.rt_input.specs.declared.part.Part.TheVariants.{Query1}
use Rattle.rt_input.specs.First.{first_of}
use Rattle.rt_input.proofs.StepLemmas.{left_stops as left_stops_at, then_ok}
use Rattle.rt_input.proofs.EndLemmas.{ends_after_all}
use Rattle.rt_input.proofs.BegunLemmas.{first_begun, left_begun, left_stops, some_of_all}
use Rattle.rt_input.proofs.first.first_of.Goals as goal

pub returns-in_err-tables-clause-begun : goal.returns-in_err-tables-clause-begun
returns-in_err-tables-clause-begun g c =
    left_stops g.F.Files.tells c.args.source.now (g.F.Files.held c.args.files.now) (g.F.Files.begun c.args.files.now) (g.F.Files.begun c.args.files.now) _ c.tables_of.ensures.begun

pub returns-in_err-left-clause-begun : goal.returns-in_err-left-clause-begun
returns-in_err-left-clause-begun g c =
    left_begun g.F.Files.tells c.args.source.now (g.F.Files.held c.args.files.now) _ _ _ (record { schema = c.in_ok-tables.tables.schema; given = c.in_ok-tables.tables.given })
    c.in_ok-tables.ensures.ok c.in_ok-tables.ensures.begun_ok c.read_query.ensures.begun

pub returns-in_err-left-clause-last : goal.returns-in_err-left-clause-last
returns-in_err-left-clause-last g c =
    let p = err_from_is_err_and c.from_residual-in_err-left.result c.from_residual-in_err-left.ensures.1 in
    rw (p.1, p.2) (ends_after_all c.args.source.now _ _ _ c.in_err-left.field-0.0 (g.F.Files.begun c.args.files.now) (g.F.Files.begun c.tables_of.new.files)
    (g.F.Files.begun c.read_query.new.files) c.in_ok-tables.ensures.begun_ok c.in_err-left.ensures.last)

pub returns-clause-begun : goal.returns-clause-begun
returns-clause-begun g c = some_of_all _ _ _ _ _
    (first_begun g.F.Files.tells c.args.source.now (g.F.Files.held c.args.files.now) _ _ _ (record { schema = c.in_ok-tables.tables.schema; given = c.in_ok-tables.tables.given })
    c.in_ok-tables.ensures.ok c.in_ok-tables.ensures.begun_ok c.in_ok-left.ensures.begun_ok)

pub returns-clause-begun_ok : goal.returns-clause-begun_ok
returns-clause-begun_ok g c =
    first_begun g.F.Files.tells c.args.source.now (g.F.Files.held c.args.files.now) _ _ _ (record { schema = c.in_ok-tables.tables.schema; given = c.in_ok-tables.tables.given })
    c.in_ok-tables.ensures.ok c.in_ok-tables.ensures.begun_ok c.in_ok-left.ensures.begun_ok

pub returns-clause-given : goal.returns-clause-given
returns-clause-given g c = λ held fits.
    then_ok (data_judged c.args.source.now held) _ _ _ (c.in_ok-tables.ensures.given held (fits_first held _ _ _ c.in_ok-left.ensures.adds fits))
    (then_ok (query_judged c.args.source.now held Query1 c.in_ok-tables.tables.schema) c.in_ok-left.left _ _ (c.in_ok-left.ensures.given held (fits_then held _ _ _ c.in_ok-tables.ensures.adds fits))
    (λ i. Ok (record { schema = sym c.into_parts-schema.ensures.schema i; given = sym c.into_parts-schema.ensures.given i; left = c.in_ok-left.left })))

pub returns-clause-adds : goal.returns-clause-adds
returns-clause-adds g c = adds_on _ _ _ c.in_ok-tables.ensures.adds c.in_ok-left.ensures.adds

pub returns-in_err-left-clause-adds : goal.returns-in_err-left-clause-adds
returns-in_err-left-clause-adds g c = adds_on _ _ _ c.in_ok-tables.ensures.adds c.read_query.ensures.adds

pub returns-in_err-left-clause-err : goal.returns-in_err-left-clause-err
returns-in_err-left-clause-err g c =
    let p = err_from_is_err_and c.from_residual-in_err-left.result c.from_residual-in_err-left.ensures.1 in
    let start = c.args.files.now in
    let mid = c.tables_of.new.files in
    let end = c.read_query.new.files in
    rw (p.1, p.2) (left_stops_at g.F.Files.tells (g.F.Files.held start) (g.F.Files.held mid) (g.F.Files.faults start) (g.F.Files.faults mid) (g.F.Files.faults end)
    (g.F.Files.current end) (g.F.Files.taken end) c.args.source.now (λ d left. Ok (first_of d left)) (record { schema = c.in_ok-tables.tables.schema; given = c.in_ok-tables.tables.given })
    c.in_err-left.field-0.0 c.in_ok-tables.ensures.held c.in_ok-tables.ensures.rises c.in_ok-tables.ensures.ok c.in_err-left.ensures.err)
