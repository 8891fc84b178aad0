use Rattle.std.proofs.Common.{◌≡◌, ◌∷◌, ◌++◌, [], Bool, subst}
use Rattle.std.specs.Prelude.{if◌then◌else◌}
use Rattle.rt_recorder.specs.Recording.{IsAccepted}
use Rattle.rt_recorder.proofs.Checks.{accepted-more, lines-more, not-so, so, wrong-at}
use Rattle.rt_recorder.proofs.check.check.Goals as goal

pub returns-then-not-branch : goal.returns-then-not-branch
returns-then-not-branch c =
    wrong-at c.args.to.now.lines c.loop-i.to.lines c.args.steps.now c.loop-i.i c.index-steps-i.result c.loop-i-test.true c.index-steps-i.is c.loop-i.invariant.lines c.loop-i.invariant.accepted
    (λ a. not-so c.in_ok-accept.field-0 (c.in_ok-accept.ensures.yes.1 a) c.if-not-branch.true)

pub loop-i-preserved : goal.loop-i-preserved
loop-i-preserved c =
    let grown = subst (λ (b : Bool). c.accept.new.to.lines ≡ (if b then c.loop-i.to.lines ++ c.index-steps-i.result.lits ∷ [] else c.loop-i.to.lines)) c.if-not-branch.false c.in_ok-accept.ensures.lines in
    record {
      lines = lines-more c.args.to.now.lines c.loop-i.to.lines c.accept.new.to.lines c.args.steps.now c.loop-i.i c.index-steps-i.result c.loop-i-test.true c.index-steps-i.is c.loop-i.invariant.lines grown;
      accepted = accepted-more c.args.to.now.lines c.args.steps.now c.loop-i.i c.index-steps-i.result c.loop-i-test.true c.index-steps-i.is c.loop-i.invariant.accepted
          (subst (λ ls. IsAccepted ls c.index-steps-i.result) c.loop-i.invariant.lines (c.in_ok-accept.ensures.yes.0 (so c.in_ok-accept.field-0 c.if-not-branch.false)));
    }
