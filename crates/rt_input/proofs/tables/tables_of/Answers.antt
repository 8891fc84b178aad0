use Rattle.std.proofs.Common.{Ok, ap, sym}
use Rattle.std.proofs.lemmas.Result.{err_from_is_err_and}
use Rattle.rt_io.proofs.GaveLemmas.{adds_on, fits_first, fits_then}
use Rattle.rt_input.specs.Judged.{no_rows, schema_judged, tables_judged}
use Rattle.rt_input.proofs.StepLemmas.{then_ok}
use Rattle.rt_input.proofs.EndLemmas.{ends_later}
use Rattle.rt_input.proofs.BegunLemmas.{data_begun, schema_begun, some_of_all, tables_begun}
use Rattle.rt_input.proofs.tables.tables_of.Goals as goal

pub returns-in_err-schema-clause-begun : goal.returns-in_err-schema-clause-begun
returns-in_err-schema-clause-begun g c =
    schema_begun g.F.Files.tells c.args.source.now (g.F.Files.held c.args.files.now) (g.F.Files.begun c.args.files.now) (g.F.Files.begun c.args.files.now) _ c.schema_file.ensures.begun

pub returns-in_err-given-clause-begun : goal.returns-in_err-given-clause-begun
returns-in_err-given-clause-begun g c =
    tables_begun g.F.Files.tells c.args.source.now (g.F.Files.held c.args.files.now) _ _ _ c.in_ok-schema.schema c.in_ok-schema.ensures.begun_ok c.in_ok-schema.ensures.ok
    (g.F.Files.held c.schema_file.new.files) c.in_ok-schema.ensures.held c.in_err-given.ensures.begun c.in_err-given.ensures.reached

pub returns-in_err-given-clause-last : goal.returns-in_err-given-clause-last
returns-in_err-given-clause-last g c =
    let p = err_from_is_err_and c.from_residual-in_err-given.result c.from_residual-in_err-given.ensures.1 in
    rw (p.1, p.2) (ends_later c.args.source.now c.in_err-given.field-0.0 (g.F.Files.begun c.args.files.now) (g.F.Files.begun c.schema_file.new.files)
    (g.F.Files.begun c.read_given.new.files) _ c.in_ok-schema.ensures.begun_ok c.in_err-given.ensures.last)

pub returns-clause-begun : goal.returns-clause-begun
returns-clause-begun g c = some_of_all _ _ _ _ _
    (data_begun g.F.Files.tells c.args.source.now (g.F.Files.held c.args.files.now) _ _ _ c.in_ok-schema.schema c.in_ok-schema.ensures.begun_ok c.in_ok-schema.ensures.ok
    (g.F.Files.held c.schema_file.new.files) c.in_ok-given.given.tables c.in_ok-schema.ensures.held c.in_ok-given.ensures.begun_ok c.in_ok-given.ensures.ok)

pub returns-clause-begun_ok : goal.returns-clause-begun_ok
returns-clause-begun_ok g c =
    data_begun g.F.Files.tells c.args.source.now (g.F.Files.held c.args.files.now) _ _ _ c.in_ok-schema.schema c.in_ok-schema.ensures.begun_ok c.in_ok-schema.ensures.ok
    (g.F.Files.held c.schema_file.new.files) c.in_ok-given.given.tables c.in_ok-schema.ensures.held c.in_ok-given.ensures.begun_ok c.in_ok-given.ensures.ok

pub returns-clause-given : goal.returns-clause-given
returns-clause-given g c = λ held fits.
    then_ok (schema_judged c.args.source.now held) c.in_ok-schema.schema _ _ (c.in_ok-schema.ensures.given held (fits_first held _ _ _ c.in_ok-given.ensures.adds fits))
    (then_ok (tables_judged c.args.source.now held 0 (no_rows c.in_ok-schema.schema) c.in_ok-schema.schema) c.in_ok-given.given.tables _ _
    (c.in_ok-given.ensures.given held (fits_then held _ _ _ c.in_ok-schema.ensures.adds fits))
    (ap (λ kinds. Ok (record { schema = c.in_ok-schema.schema; given = record { kinds = kinds; tables = c.in_ok-given.given.tables } })) (sym c.in_ok-given.ensures.of_schema)))

pub returns-clause-adds : goal.returns-clause-adds
returns-clause-adds g c = adds_on _ _ _ c.in_ok-schema.ensures.adds c.in_ok-given.ensures.adds

pub returns-in_err-given-clause-adds : goal.returns-in_err-given-clause-adds
returns-in_err-given-clause-adds g c = adds_on _ _ _ c.in_ok-schema.ensures.adds c.in_err-given.ensures.adds
