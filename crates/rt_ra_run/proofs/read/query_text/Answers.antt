use Rattle.rt_input.specs.Steps.{seen}
use Rattle.rt_ra_run.proofs.StepLemmas.{placeless_text, stops_query_text, text_given}
use Rattle.rt_ra_run.proofs.read.query_text.Goals as goal

pub returns-in-Ok-clause-ok : goal.returns-in-Ok-clause-ok
returns-in-Ok-clause-ok g c = λ t. text_given c.args.command.now (g.F.Files.held c.args.files.now) c.args.part c.part.result c.query.result.now c.in-Ok.text c.part.ensures c.query.ensures (c.in-Ok.ensures.ok t)

pub returns-in-Err-clause-err : goal.returns-in-Err-clause-err
returns-in-Err-clause-err g c =
    let start = c.args.files.now in
    let end = c.read_text.new.files in
    stops_query_text (seen g.F.Files.tells (g.F.Files.held start) (g.F.Files.faults start) (g.F.Files.faults end) (g.F.Files.current end) (g.F.Files.taken end)) c.args.command.now c.args.part c.part.result c.query.result.now c.in-Err.outcome c.part.ensures c.query.ensures c.in-Err.ensures.err

pub returns-in-Err-clause-place : goal.returns-in-Err-clause-place
returns-in-Err-clause-place g c =
    let start = c.args.files.now in
    let end = c.read_text.new.files in
    placeless_text (seen g.F.Files.tells (g.F.Files.held start) (g.F.Files.faults start) (g.F.Files.faults end) (g.F.Files.current end) (g.F.Files.taken end)) c.query.result.now c.part.result c.in-Err.outcome c.in-Err.ensures.err
