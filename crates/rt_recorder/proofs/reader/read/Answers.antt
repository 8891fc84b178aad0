use Rattle.std.proofs.Common.{arith, drop, refl, subst, ap, length}
use Rattle.rt_recorder.specs.Reading.{IsNext}
use Rattle.rt_recorder.proofs.Spaced.{not-empty}
use Rattle.rt_recorder.proofs.BadLemmas.{at-next, bad-end, bad-line, feed-cut, last-cut, not-ended}
use Rattle.rt_recorder.proofs.reader.read.Goals as goal

pub returns-in-None : goal.returns-in-None
returns-in-None c =
    let p = feed-cut c.lines.rest.now c.split_at.result.0.now c.split_at.result.1.now (drop 1 c.split_at.result.1.now) c.lines.end c.lines-test.true c.lines.invariant.cut c.split_at.ensures.front c.split_at.ensures.back refl in
    bad-line c.args.text.now c.lines.rest.now c.split_at.result.0.now (drop 1 c.split_at.result.1.now) c.lines.reading c.lines.n c.lines.invariant.at p.0 p.1
    (subst (IsNext c.lines.reading c.split_at.result.0.now) c.in-None.is c.in_ok-next.ensures)

pub lines-preserved : goal.lines-preserved
lines-preserved c =
    let p = feed-cut c.lines.rest.now c.split_at.result.0.now c.split_at.result.1.now c.split_at-in-lines.result.1.now c.lines.end c.lines-test.true c.lines.invariant.cut c.split_at.ensures.front c.split_at.ensures.back c.split_at-in-lines.ensures.back in
    record {
      at = at-next c.args.text.now c.lines.rest.now c.split_at.result.0.now c.split_at-in-lines.result.1.now c.lines.reading c.in-Some.next c.lines.n c.lines.invariant.at p.1
          (subst (IsNext c.lines.reading c.split_at.result.0.now) c.in-Some.is c.in_ok-next.ensures);
      within = c.span-end-in-lines.ensures.within;
      cut = c.span-end-in-lines.ensures.cut;
      room = omega arith;
    }

pub returns-then-not-is_empty : goal.returns-then-not-is_empty
returns-then-not-is_empty c =
    bad-end c.args.text.now c.lines.rest.now c.lines.reading c.lines.n c.lines.invariant.at (last-cut c.lines.rest.now c.lines.end c.lines-test.false c.lines.invariant.cut)
    (λ e ended. let some = not-empty c.lines.rest.now c.is_empty.result c.is_empty.ensures c.if-not-is_empty.true in absurd (omega (arith, some, ap length e)))

pub returns : goal.returns
returns c =
    bad-end c.args.text.now c.lines.rest.now c.lines.reading c.lines.n c.lines.invariant.at (last-cut c.lines.rest.now c.lines.end c.lines-test.false c.lines.invariant.cut)
    (λ e ended. not-ended c.lines.reading c.in_default.not-Ended ended)
