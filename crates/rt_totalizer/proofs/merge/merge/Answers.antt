use Rattle.rt_totalizer.proofs.Growing.{sum-left, sum-right}
use Rattle.rt_totalizer.proofs.merge.merge.Goals as goal

pub returns-then-right-eq0-clause-sum : goal.returns-then-right-eq0-clause-sum
returns-then-right-eq0-clause-sum g c = sum-left c.args.never c.args.left.list c.args.left.most c.args.right.list c.args.right.most c.args.next.now (g.A.Adds.lines c.args.to.now) c.if-right-eq0.true

pub returns-then-left-eq0-clause-sum : goal.returns-then-left-eq0-clause-sum
returns-then-left-eq0-clause-sum g c = sum-right c.args.never c.args.left.list c.args.left.most c.args.right.list c.args.right.most c.args.next.now (g.A.Adds.lines c.args.to.now) c.if-left-eq0.true
