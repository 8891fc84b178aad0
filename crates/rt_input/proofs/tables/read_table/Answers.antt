use Rattle.std.proofs.Common.{◌≡◌, ◌<◌, ◌++◌, sym, ap, subst, ◌∙◌, arith, length, Ok, Err}
use Rattle.rt_schema.specs.Given.{places, rows_at}
use Rattle.rt_load.specs.Loaded.{columns_at, loaded}
use Rattle.rt_load.proofs.SuitLemmas.{same-length}
use Rattle.rt_input.specs.declared.part.Part.TheVariants as part
use Rattle.rt_input.specs.Begun.{part_files}
use Rattle.rt_input.specs.Faults.{load_outcome}
use Rattle.rt_input.specs.Source.{Text}
use Rattle.rt_input.specs.Judged.{table_judged}
use Rattle.rt_input.specs.Steps.{seen}
use Rattle.rt_input.proofs.EndLemmas.{ends_at}
use Rattle.rt_input.proofs.SpeakLemmas.{load_part}
use Rattle.rt_input.proofs.StepLemmas.{stops_loaded}
use Rattle.rt_input.proofs.TableLemmas.{columns_at-get, few_after, get-within, table_read}
use Rattle.rt_input.proofs.tables.read_table.Goals as goal

pub load-requires-clause-in_range : goal.load-requires-clause-in_range
load-requires-clause-in_range g c = get-within c.args.schema.now c.args.at c.args.table.now c.requires.is_table

pub returns-in-Ok-clause-ok : goal.returns-in-Ok-clause-ok
returns-in-Ok-clause-ok g c = λ t.
    table_read c.args.source.now (g.F.Files.held c.args.files.now) c.args.at c.args.table.now c.in_ok-copy.field-0 c.as_slice.result.now
    (places c.args.given.now.tables) (columns_at c.args.schema.now c.args.at) (Ok (rows_at c.load.new.given.tables c.args.at))
    c.in_ok-copy.ensures (columns_at-get c.args.schema.now c.args.at c.args.table.now c.requires.is_table)
    (c.in_ok-text.ensures.ok t ∙ ap Ok (sym c.as_slice.ensures)) c.in-Ok.ensures.rows

pub returns-in-Ok-clause-given : goal.returns-in-Ok-clause-given
returns-in-Ok-clause-given g c = λ held fits.
    table_read c.args.source.now held c.args.at c.args.table.now c.in_ok-copy.field-0 c.as_slice.result.now
    (places c.args.given.now.tables) (columns_at c.args.schema.now c.args.at) (Ok (rows_at c.load.new.given.tables c.args.at))
    c.in_ok-copy.ensures (columns_at-get c.args.schema.now c.args.at c.args.table.now c.requires.is_table)
    (c.in_ok-text.ensures.given held fits ∙ ap Ok (sym c.as_slice.ensures)) c.in-Ok.ensures.rows

pub returns-in-Ok-clause-few : goal.returns-in-Ok-clause-few
returns-in-Ok-clause-few g c =
    let within = get-within c.args.schema.now c.args.at c.args.table.now c.requires.is_table in
    let long = same-length c.args.schema.now c.args.given.now c.requires.of_schema c.tables-tables.ensures.sound in
    let inside : c.args.at < length c.args.given.now.tables = omega (arith, within, long) in
    rw c.in-Ok.ensures.others (few_after (columns_at c.args.schema.now c.args.at) c.as_slice.result.now c.args.given.now.tables c.args.at
    (rows_at c.load.new.given.tables c.args.at) c.in-Ok.ensures.rows c.requires.few inside c.requires.empty)

pub returns-clause-err : goal.returns-clause-err
returns-clause-err g c =
    let name = c.args.table.now.name in
    let text = c.as_slice.result.now in
    let before = places c.args.given.now.tables in
    let columns = columns_at c.args.schema.now c.args.at in
    let s = seen g.F.Files.tells (g.F.Files.held c.args.files.now) (g.F.Files.faults c.args.files.now) (g.F.Files.faults c.source_text.new.files)
    (g.F.Files.current c.source_text.new.files) (g.F.Files.taken c.source_text.new.files) in
    let judged = table_judged c.args.source.now (g.F.Files.held c.args.files.now) c.args.at c.args.table.now before in
    rw (c.load_outcome.ensures, c.in_ok-copy-2.ensures)
    (stops_loaded s c.args.source.now (part.Table c.args.at name) (loaded columns text before) judged (λ p. p ≡ part.Table c.args.at name) c.in-Err.fault c.in-Err.ensures.rows
    (λ t e is. table_read c.args.source.now (g.F.Files.held c.args.files.now) c.args.at c.args.table.now c.in_ok-copy.field-0 text before columns (Err e)
    c.in_ok-copy.ensures (columns_at-get c.args.schema.now c.args.at c.args.table.now c.requires.is_table)
    (c.in_ok-text.ensures.ok t ∙ ap Ok (sym c.as_slice.ensures)) is))

pub returns-clause-last : goal.returns-clause-last
returns-clause-last g c =
    let here = part.Table c.args.at c.args.table.now.name in
    let old = g.F.Files.begun c.args.files.now in
    let new = g.F.Files.begun c.source_text.new.files in
    rw (c.load_outcome.ensures, c.in_ok-copy-2.ensures)
    (ends_at c.args.source.now here (load_outcome here c.in-Err.fault) old new
    (subst (λ (name : Text). new ≡ old ++ part_files c.args.source.now (part.Table c.args.at name)) c.in_ok-copy.ensures c.in_ok-text.ensures.begun_ok) (load_part here c.in-Err.fault))
