use Rattle.std.proofs.Common.{ap}
use Rattle.rt_input.specs.Steps.{seen}
use Rattle.rt_ra_run.specs.Faults.{or_outcome}
use Rattle.rt_ra_run.specs.declared.outcome.RaOutcome.TheVariants.{Verdict}
use Rattle.rt_ra_run.proofs.StepLemmas.{stops_data}
use Rattle.rt_ra_run.proofs.read.read_data.Goals as goal

pub returns-in-Ok-clause-ok : goal.returns-in-Ok-clause-ok
returns-in-Ok-clause-ok g c = λ t. ap (or_outcome Verdict) (c.in-Ok.ensures.ok t)

pub returns-in-Err-clause-err : goal.returns-in-Err-clause-err
returns-in-Err-clause-err g c =
    let start = c.args.files.now in
    let end = c.read_tables.new.files in
    stops_data (seen g.F.Files.tells (g.F.Files.held start) (g.F.Files.faults start) (g.F.Files.faults end) (g.F.Files.current end) (g.F.Files.taken end)) c.args.command.now c.in-Err.outcome c.in-Err.ensures.err

pub returns-in-Err-clause-place : goal.returns-in-Err-clause-place
returns-in-Err-clause-place g c = c.in-Err.ensures.place
