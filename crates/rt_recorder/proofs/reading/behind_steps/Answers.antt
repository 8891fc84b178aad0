use Rattle.std.proofs.Common.{◌≡◌, ◌≢◌, subst}
use Rattle.std.specs.Prelude.{MatchBool}
use Rattle.rt_recorder.specs.Certificate.{IsStep, last_line, step_line}
use Rattle.rt_recorder.specs.Reading.{Reads}
use Rattle.rt_recorder.proofs.NextLemmas.{steps-no}
use Rattle.rt_recorder.proofs.reading.behind_steps.Goals as goal

pub returns-in-None : goal.returns-in-None
returns-in-None c =
    steps-no c.args.line.now c.args.cert (subst (λ b. MatchBool b (c.args.line.now ≡ last_line) (c.args.line.now ≢ last_line)) c.if-is.false c.is.ensures)
    (subst (Reads IsStep step_line c.args.line.now) c.in-None.is c.in_ok-step.ensures)
