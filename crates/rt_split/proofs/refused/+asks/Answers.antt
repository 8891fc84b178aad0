use Rattle.rt_algebra.proofs.Staying.{each_more, each_of, each_at}
use Rattle.rt_split.specs.Refused.{IsSimple}
use Rattle.rt_split.proofs.Refusing.{simple_and, simple_or}
use Rattle.rt_split.proofs.refused.+asks.Goals as goal

pub asks-returns-in-And : goal.asks-returns-in-And
asks-returns-in-And t c h = simple_and c.in-And.members c.in-And.is (each_at IsSimple c.as_slice.ensures (c.some_asks.ensures h))

pub asks-returns-in-Or : goal.asks-returns-in-Or
asks-returns-in-Or t c h = simple_or c.in-Or.members c.in-Or.is (each_at IsSimple c.as_slice-in-Or.ensures (c.some_asks-in-Or.ensures h))

pub some_asks-loop-member-preserved : goal.some_asks-loop-member-preserved
some_asks-loop-member-preserved t c =
    each_more IsSimple c.args.members.now c.loop-member.member-index c.member-item.result c.loop-member-test.true c.member-item.is c.loop-member.invariant (c.asks.ensures c.if-asks.false)

pub some_asks-returns : goal.some_asks-returns
some_asks-returns t c h = each_of IsSimple c.args.members.now c.loop-member.member-index c.loop-member-test.false c.loop-member.invariant
