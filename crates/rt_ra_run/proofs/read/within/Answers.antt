use Rattle.std.proofs.Common.{refl}
use Rattle.rt_input.specs.Held.{text_of}
use Rattle.rt_input.specs.Source.{tables_in}
use Rattle.rt_ra_run.proofs.StepLemmas.{within_ok, within_refuses}
use Rattle.rt_ra_run.proofs.read.within.Goals as goal

pub returns-in-Ok-clause-ok : goal.returns-in-Ok-clause-ok
returns-in-Ok-clause-ok c =
    within_ok c.args.asked c.in-Ok.input c.in-Ok.ensures.ok.0 c.in-Ok.ensures.ok.1 (record { input = c.in-Ok.input; left = c.args.asked.left; right = c.args.asked.right }) refl

pub returns-in-Err-clause-err : goal.returns-in-Err-clause-err
returns-in-Err-clause-err c = within_refuses c.args.asked c.in-Err.outcome c.in-Err.ensures.err

pub returns-in-Err-clause-place : goal.returns-in-Err-clause-place
returns-in-Err-clause-place c = λ k held. c.in-Err.ensures.place (text_of (tables_in k.schema k.dir) held)
