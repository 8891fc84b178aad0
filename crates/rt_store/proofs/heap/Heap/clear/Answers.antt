use Rattle.rt_store.proofs.Membership.{cleared}
use Rattle.rt_store.proofs.heap.Heap.clear.Goals as goal

pub returns : goal.returns
returns c = cleared c.self.inside.count c.self.inside.order c.args.self.now c.self.view_is
