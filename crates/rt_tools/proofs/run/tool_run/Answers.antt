use Rattle.rt_io.specs.Logs.{log}
use Rattle.rt_input.specs.Reading.{call}
use Rattle.rt_tools.proofs.JudgedLemmas.{written_as_judged, written_complete, written_usage}
use Rattle.rt_writing.proofs.WriteLemmas.{writes}
use Rattle.rt_tools.specs.Answers.{Ends, in_tools}
use Rattle.rt_tools.proofs.run.tool_run.Goals as goal

pub returns-in-Ok-clause-writes : goal.returns-in-Ok-clause-writes
returns-in-Ok-clause-writes g c = writes in_tools (Ends (call g.F.Files c.args.words.now c.args.files.now c.prepare.new.files))
    (log g.O.Sink c.args.out.now c.speak.new.out) (log g.E.Sink c.args.err.now c.speak.new.err)
    c.in-Ok.answer.outcome c.in-Ok.answer.text c.speak.result c.in-Ok.ensures.ends c.speak.ensures.ends c.speak.ensures.kept (λ text h. h) (λ text h. h) (λ e. cc e)

pub returns-in-Ok-clause-exact : goal.returns-in-Ok-clause-exact
returns-in-Ok-clause-exact g c = written_as_judged
    (call g.F.Files c.args.words.now c.args.files.now c.prepare.new.files)
    (log g.O.Sink c.args.out.now c.speak.new.out) (log g.E.Sink c.args.err.now c.speak.new.err)
    c.in-Ok.answer.outcome c.in-Ok.answer.text c.speak.result c.in-Ok.ensures.ends c.speak.ensures.ends

pub returns-in-Ok-clause-usage_exact : goal.returns-in-Ok-clause-usage_exact
returns-in-Ok-clause-usage_exact g c = written_usage
    (call g.F.Files c.args.words.now c.args.files.now c.prepare.new.files)
    (log g.O.Sink c.args.out.now c.speak.new.out) (log g.E.Sink c.args.err.now c.speak.new.err)
    c.in-Ok.answer.outcome c.in-Ok.answer.text c.speak.result c.in-Ok.ensures.ends c.speak.ensures.ends

pub returns-in-Ok-clause-complete : goal.returns-in-Ok-clause-complete
returns-in-Ok-clause-complete g c = written_complete
    (call g.F.Files c.args.words.now c.args.files.now c.prepare.new.files)
    (log g.O.Sink c.args.out.now c.speak.new.out) (log g.E.Sink c.args.err.now c.speak.new.err)
    c.in-Ok.answer.outcome c.in-Ok.answer.text c.speak.result c.in-Ok.ensures.ends c.speak.ensures.ends
