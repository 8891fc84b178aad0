use Rattle.rt_io.specs.Command.{command}
use Rattle.rt_io.specs.Logs.{log}
use Rattle.rt_input.specs.Reading.{call}
use Rattle.rt_top.proofs.VerdictLemmas.{gets_verdict, said_of, spoken_ends}
use Rattle.rt_top.proofs.top.ratest.Goals as goal

pub returns-in-Ok-clause-said : goal.returns-in-Ok-clause-said
returns-in-Ok-clause-said g c = said_of
    (call g.F.Files c.args.words.now c.args.files.now c.prepare.new.files)
    (log g.O.Sink c.args.out.now c.speak.new.out) (log g.E.Sink c.args.err.now c.speak.new.err)
    c.in-Ok.answer.outcome c.in-Ok.answer.text c.speak.result c.in-Ok.ensures.says c.speak.ensures

pub returns-in-Ok-clause-complete : goal.returns-in-Ok-clause-complete
returns-in-Ok-clause-complete g c = λ tells calm sinks input ok room. gets_verdict
    (call g.F.Files c.args.words.now c.args.files.now c.prepare.new.files)
    (log g.O.Sink c.args.out.now c.speak.new.out) (log g.E.Sink c.args.err.now c.speak.new.err)
    c.in-Ok.answer.outcome c.in-Ok.answer.text c.speak.result input c.in-Ok.ensures.row c.speak.ensures tells calm sinks ok room

pub returns-in-Ok-clause-last : goal.returns-in-Ok-clause-last
returns-in-Ok-clause-last g c = spoken_ends
    (log g.O.Sink c.args.out.now c.speak.new.out) (log g.E.Sink c.args.err.now c.speak.new.err)
    c.in-Ok.answer.outcome c.in-Ok.answer.text c.speak.result (command c.args.words.now) (g.F.Files.begun c.args.files.now) (g.F.Files.begun c.prepare.new.files)
    c.speak.ensures c.in-Ok.ensures.last
