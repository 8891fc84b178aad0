use Rattle.std.proofs.Common.{subst}
use Rattle.rt_recorder.specs.Reading.{IsClaim, Reads, claim_line}
use Rattle.rt_recorder.proofs.NextLemmas.{verdict-no}
use Rattle.rt_recorder.proofs.reading.behind_verdict.Goals as goal

pub returns-in-None : goal.returns-in-None
returns-in-None c = verdict-no c.args.line.now (subst (Reads IsClaim claim_line c.args.line.now) c.in-None.is c.claim.ensures)
