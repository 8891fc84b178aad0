use Rattle.std.proofs.Common.{List, subst}
use Rattle.std.specs.Prelude.{IfOk}
use Rattle.rt_recorder.specs.declared.cert.Step.{Step}
use Rattle.rt_recorder.specs.Checking.{IsChecked}
use Rattle.rt_recorder.proofs.Checks.{only-answer, sound-answer}
use Rattle.rt_recorder.proofs.check.check_steps.Goals as goal

pub returns-clause-only : goal.returns-clause-only
returns-clause-only c =
    only-answer c.args.to.now.lines c.args.cert.now.steps c.args.assume c.check.result
    (subst (λ (ss : List Step). IfOk c.check.result (λ a. IsChecked c.args.to.now.lines ss c.args.assume a)) c.as_slice.ensures c.check.ensures)

pub returns-clause-sound : goal.returns-clause-sound
returns-clause-sound c =
    sound-answer c.args.to.now.lines c.args.cert.now.steps c.args.assume c.check.result
    (subst (λ (ss : List Step). IfOk c.check.result (λ a. IsChecked c.args.to.now.lines ss c.args.assume a)) c.as_slice.ensures c.check.ensures)
