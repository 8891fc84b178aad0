use Rattle.std.proofs.Common.{refl}
use Rattle.rt_input.specs.Held.{text_of}
use Rattle.rt_input.specs.Source.{tables_in}
use Rattle.rt_ra_run.proofs.StepLemmas.{beside_ok, beside_refuses}
use Rattle.rt_ra_run.proofs.read.beside.Goals as goal

pub returns-in-Ok-clause-ok : goal.returns-in-Ok-clause-ok
returns-in-Ok-clause-ok c =
    beside_ok c.args.left.now c.args.right c.in-Ok.typed c.in-Ok.ensures.ok.0 c.in-Ok.ensures.ok.1 (record { text = c.args.right.text; typed = c.in-Ok.typed }) refl

pub returns-in-Err-clause-err : goal.returns-in-Err-clause-err
returns-in-Err-clause-err c = beside_refuses c.args.left.now c.args.right c.in-Err.outcome c.in-Err.ensures.err

pub returns-in-Err-clause-place : goal.returns-in-Err-clause-place
returns-in-Err-clause-place c = λ k held. c.in-Err.ensures.place (text_of (tables_in k.schema k.dir) held)
