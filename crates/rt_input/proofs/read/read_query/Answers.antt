use Rattle.std.proofs.Common.{◌≡◌, ◌++◌, ◌∙◌, Ok, ap, subst, sym}
use Rattle.std.specs.Prelude.{IfErr}
use Rattle.rt_input.specs.Begun.{part_files}
use Rattle.rt_input.specs.Source.{IsKnown, query_part}
use Rattle.rt_input.specs.Steps.{SpeaksOf, seen}
use Rattle.rt_input.specs.declared.part.Part.{Part}
use Rattle.rt_input.proofs.EndLemmas.{if_at}
use Rattle.rt_input.specs.Held.{text_of}
use Rattle.rt_input.specs.Placed.{Placed, PlacedIn}
use Rattle.rt_input.proofs.PlaceLemmas.{placed_at}
use Rattle.rt_input.proofs.StepLemmas.{if_err, query_stops}
use Rattle.rt_input.proofs.read.read_query.Goals as goal

pub returns-clause-err : goal.returns-clause-err
returns-clause-err g c = query_stops
    (seen g.F.Files.tells (g.F.Files.held c.args.files.now) (g.F.Files.faults c.args.files.now) (g.F.Files.faults c.source_text.new.files)
    (g.F.Files.current c.source_text.new.files) (g.F.Files.taken c.source_text.new.files))
    c.args.source.now (query_part c.args.part) c.part.result c.part-2.result c.args.schema.now c.in_ok-text.text c.as_slice.result.now c.query_of.result
    c.part.ensures c.part-2.ensures c.as_slice.ensures c.in_ok-text.ensures.ok c.query_of.ensures.err

pub returns-clause-last : goal.returns-clause-last
returns-clause-last g c =
    let source = c.args.source.now in
    let old = g.F.Files.begun c.args.files.now in
    let new = g.F.Files.begun c.source_text.new.files in
    if_at source c.query_of.result (query_part c.args.part) old new
    (subst (λ (p : Part). new ≡ old ++ part_files source p) c.part.ensures c.in_ok-text.ensures.begun_ok)
    (subst (λ (p : Part). IfErr c.query_of.result (SpeaksOf (λ q. q ≡ p))) c.part-2.ensures c.query_of.ensures.speaks)

pub returns-clause-place : goal.returns-clause-place
returns-clause-place g c =
    let source = c.args.source.now in
    let texts = text_of source (g.F.Files.held c.args.files.now) in
    if_err (PlacedIn c.part-2.result c.as_slice.result.now) (λ o. IsKnown g.F.Files.tells source → Placed texts o) c.query_of.result
    (λ o placed t. placed_at texts c.part-2.result c.as_slice.result.now o
    (ap texts (c.part-2.ensures ∙ sym c.part.ensures) ∙ c.in_ok-text.ensures.ok t ∙ ap Ok (sym c.as_slice.ensures)) placed)
    c.query_of.ensures.place
