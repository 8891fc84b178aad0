use Rattle.std.proofs.Common.{◌-◌, ◌∙◌, length, ap, arith}
use Rattle.rt_clause.specs.Literal.{negated}
use Rattle.rt_totalizer.proofs.Ranges.{first-length}
use Rattle.rt_totalizer.proofs.Growing.{never-over, ready-over, counted-none, counted-sum}
use Rattle.rt_totalizer.proofs.blocks.all_rows.Goals as goal

pub loop-low-init : goal.loop-low-init
loop-low-init g c =
    let a = c.args in
    let e = c.in_ok-total.ensures.list in
    let m = c.in_ok-total.ensures.most in
    record {
      within = omega arith;
      few = c.requires.few;
      len = ap length e ∙ first-length (negated a.never) a.upto;
      most = omega (arith, m);
      counted = counted-none a.among.now a.never a.upto c.in_ok-total.total.most c.in_ok-total.total.list a.next.now (g.A.Adds.lines a.to.now) c.requires.ready e m;
    }

pub block-requires-clause-ready : goal.block-requires-clause-ready
block-requires-clause-ready g c =
    let a = c.args in
    ready-over a.among.now a.never a.next.now c.loop-low.next (g.A.Adds.lines a.to.now) (g.A.Adds.lines c.loop-low.to) c.loop-low.invariant.counted.over c.requires.ready

pub merge-requires-clause-never : goal.merge-requires-clause-never
merge-requires-clause-never g c =
    let a = c.args in
    never-over a.never (g.A.Adds.lines c.loop-low.to) c.loop-low.next (g.A.Adds.lines c.block.new.to) c.block.new.next c.in_ok-part.ensures.counted.over
    (never-over a.never (g.A.Adds.lines a.to.now) a.next.now (g.A.Adds.lines c.loop-low.to) c.loop-low.next c.loop-low.invariant.counted.over c.requires.ready.never_true)

pub loop-low-preserved : goal.loop-low-preserved
loop-low-preserved g c =
    let a = c.args in
    let v = c.loop-low.invariant in
    let low = c.loop-low.low in
    let high = c.block_end-high.result in
    let part = c.in_ok-part.part in
    let total = c.in_ok-total-2.total in
    let later = c.block_end-high.ensures.later in
    record {
      within = c.block_end-high.ensures.within;
      few = c.in_ok-total-2.ensures.few;
      len = c.in_ok-total-2.ensures.len ∙ v.len;
      most = (let x = c.in_ok-total-2.ensures.most in let y = v.most in let z = c.in_ok-part.ensures.most in omega (arith, x, y, z, later));
      counted = counted-sum a.among.now a.never 0 low low (high - low) high c.loop-low.total.list c.loop-low.total.most part.list part.most total.list total.most
          a.next.now (g.A.Adds.lines a.to.now) c.loop-low.next (g.A.Adds.lines c.loop-low.to) c.block.new.next (g.A.Adds.lines c.block.new.to) c.merge.new.next (g.A.Adds.lines c.merge.new.to)
          c.requires.ready.rows (omega arith) (omega (arith, later)) v.counted c.in_ok-part.ensures.counted c.in_ok-total-2.ensures.sum;
    }
