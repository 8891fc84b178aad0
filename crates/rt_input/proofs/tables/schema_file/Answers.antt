use Rattle.std.proofs.Common.{◌≡◌, ◌∙◌, Err, ap, sym}
use Rattle.rt_input.specs.Held.{text_of}
use Rattle.rt_input.specs.Judged.{schema_judged, schema_of}
use Rattle.rt_input.specs.Steps.{Refuses, Stops, seen}
use Rattle.rt_input.specs.declared.part.Part.TheVariants.{Schema}
use Rattle.rt_input.proofs.EndLemmas.{if_at}
use Rattle.rt_input.proofs.StepLemmas.{if_err, stops_refused, then_ok}
use Rattle.rt_input.proofs.tables.schema_file.Goals as goal

pub returns-clause-last : goal.returns-clause-last
returns-clause-last g c =
    if_at c.args.source.now c.schema_of.result Schema (g.F.Files.begun c.args.files.now) (g.F.Files.begun c.source_text.new.files)
    c.in_ok-text.ensures.begun_ok c.schema_of.ensures.of_part

pub returns-clause-err : goal.returns-clause-err
returns-clause-err g c =
    let source = c.args.source.now in
    let held = g.F.Files.held c.args.files.now in
    let text = c.as_slice.result.now in
    let s = seen g.F.Files.tells held (g.F.Files.faults c.args.files.now) (g.F.Files.faults c.source_text.new.files)
    (g.F.Files.current c.source_text.new.files) (g.F.Files.taken c.source_text.new.files) in
    if_err (Refuses (schema_of text)) (Stops s source (schema_judged source held) (λ p. p ≡ Schema)) c.schema_of.result
    (λ o refuses. stops_refused s source (schema_of text) (schema_judged source held) (λ p. p ≡ Schema) o
    (λ t e is. then_ok (text_of source held Schema) c.in_ok-text.text schema_of (Err e) (c.in_ok-text.ensures.ok t) (ap schema_of (sym c.as_slice.ensures) ∙ is)) refuses)
    c.schema_of.ensures.err
