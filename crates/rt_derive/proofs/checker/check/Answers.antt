use Rattle.std.proofs.Common.{◌∙◌, sym, arith}
use Rattle.rt_derive.proofs.Left.{answered, begin, next}
use Rattle.rt_derive.proofs.Spending.{none-spent}
use Rattle.rt_derive.proofs.checker.check.Goals as goal

pub loop-h-init : goal.loop-h-init
loop-h-init c = record {
  same = begin c.args.lines.now c.loop-l.held c.args.lits.now c.args.hints.now c.loop-l.l-index (omega arith) c.loop-l.invariant;
  spent = none-spent c.args.lines.now c.loop-l.held c.clear-2.new.self.keys c.clear-2.ensures.empty;
}

pub returns-in-Some : goal.returns-in-Some
returns-in-Some c =
    sym (c.loop-h.invariant.same ∙ answered c.args.lines.now c.loop-h.held c.take.new.held c.args.hints.now c.loop-h.h-index c.in_ok-answer.field-0 c.in-Some.answer c.loop-h-test.true c.in_ok-answer.ensures.takes c.in-Some.is)

pub loop-h-preserved : goal.loop-h-preserved
loop-h-preserved c = record {
  same = c.loop-h.invariant.same ∙ next c.args.lines.now c.loop-h.held c.take.new.held c.args.hints.now c.loop-h.h-index c.in_ok-answer.field-0 c.loop-h-test.true c.in_ok-answer.ensures.takes c.in-None.is;
  spent = c.in_ok-answer.ensures.spent;
}
