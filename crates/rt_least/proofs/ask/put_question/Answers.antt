use Rattle.std.proofs.Common.{List, Bool, Option, Some, subst, arith}
use Rattle.rt_solver.specs.Answers.{IsReply}
use Rattle.rt_solver.specs.Solving.{variables}
use Rattle.rt_least.proofs.Attempts.{grown-on, reply-model}
use Rattle.rt_least.proofs.ask.put_question.Goals as goal

pub rows_of-requires : goal.rows_of-requires
rows_of-requires c =
    let S : Option (List Bool) → Type 0 = λ o. IsReply c.seek.new.self.0.lines (Some c.args.held) c.args.asked (variables c.args.solver.now.0.lines (Some c.args.held) c.args.next) o in
    let m = reply-model c.args.solver.now.0.lines c.seek.new.self.0.lines c.args.held c.args.asked c.args.next c.args.rows c.in-Some.model c.requires.rows (subst S c.in-Some.is c.in_ok-model.ensures.sought) in
    m.0

pub returns-in_ok-keep-in-Some-clause-grown : goal.returns-in_ok-keep-in-Some-clause-grown
returns-in_ok-keep-in-Some-clause-grown c = grown-on _ _ _ _ (Some c.args.held) (Some c.args.asked) c.args.next c.args.next (omega arith) c.requires.asked c.in_ok-model.ensures.searched

pub returns-in_ok-keep-in-Some-clause-reply : goal.returns-in_ok-keep-in-Some-clause-reply
returns-in_ok-keep-in-Some-clause-reply c =
    let S : Option (List Bool) → Type 0 = λ o. IsReply c.seek.new.self.0.lines (Some c.args.held) c.args.asked (variables c.args.solver.now.0.lines (Some c.args.held) c.args.next) o in
    let m = reply-model c.args.solver.now.0.lines c.seek.new.self.0.lines c.args.held c.args.asked c.args.next c.args.rows c.in-Some.model c.requires.rows (subst S c.in-Some.is c.in_ok-model.ensures.sought) in
    (c.in-Some.model, m.0, m.1, m.2, c.in_ok-keep-in-Some.ensures)

pub returns-in-Some-denial-clause-grown : goal.returns-in-Some-denial-clause-grown
returns-in-Some-denial-clause-grown c = grown-on _ _ _ _ (Some c.args.held) (Some c.args.asked) c.args.next c.args.next (omega arith) c.requires.asked c.in_ok-model.ensures.searched
