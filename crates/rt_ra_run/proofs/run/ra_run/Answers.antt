use Rattle.rt_io.specs.Logs.{log}
use Rattle.rt_input.specs.Reading.{call}
use Rattle.rt_ra_run.proofs.RowLemmas.{gets_verdict, said_of, yields}
use Rattle.rt_ra_run.proofs.run.ra_run.Goals as goal

pub returns-in-Ok-clause-exact : goal.returns-in-Ok-clause-exact
returns-in-Ok-clause-exact g c = λ tells refusal is. yields
    (call g.F.Files c.args.words.now c.args.files.now c.prepare.new.files)
    (log g.O.Sink c.args.out.now c.speak.new.out) (log g.E.Sink c.args.err.now c.speak.new.err)
    c.in-Ok.answer.outcome c.in-Ok.answer.text c.speak.result refusal c.in-Ok.ensures.row c.speak.ensures tells is

pub returns-in-Ok-clause-said : goal.returns-in-Ok-clause-said
returns-in-Ok-clause-said g c = said_of
    (call g.F.Files c.args.words.now c.args.files.now c.prepare.new.files)
    (log g.O.Sink c.args.out.now c.speak.new.out) (log g.E.Sink c.args.err.now c.speak.new.err)
    c.in-Ok.answer.outcome c.in-Ok.answer.text c.speak.result c.in-Ok.ensures.says c.speak.ensures

pub returns-in-Ok-clause-complete : goal.returns-in-Ok-clause-complete
returns-in-Ok-clause-complete g c = λ tells calm sinks asked ok room. gets_verdict
    (call g.F.Files c.args.words.now c.args.files.now c.prepare.new.files)
    (log g.O.Sink c.args.out.now c.speak.new.out) (log g.E.Sink c.args.err.now c.speak.new.err)
    c.in-Ok.answer.outcome c.in-Ok.answer.text c.speak.result asked c.in-Ok.ensures.row c.speak.ensures tells calm sinks ok room
