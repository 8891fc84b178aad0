use Rattle.std.proofs.Common.{Some, subst}
use Rattle.rt_least.specs.Attempts.{IsReply}
use Rattle.rt_least.specs.declared.ask.Reply.{Reply}
use Rattle.rt_least.proofs.Attempts.{denied-none}
use Rattle.rt_least.proofs.ask.ask.Goals as goal

pub returns-in-Denied-clause-answered : goal.returns-in-Denied-clause-answered
returns-in-Denied-clause-answered c =
    let R : Reply → Type 0 = λ r. IsReply c.put_question.new.solver.0.lines c.args.held c.args.asked c.args.rows r in
    denied-none c.put_question.new.solver.0.lines (Some c.args.held) c.args.asked c.in-Denied.field-0 (subst R c.in-Denied.is c.in_ok-keep.ensures.reply)
