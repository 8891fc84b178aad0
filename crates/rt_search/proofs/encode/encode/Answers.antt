use Rattle.rt_least.proofs.Aiming.{aimed-begun}
use Rattle.rt_search.proofs.encode.encode.Goals as goal

pub returns-clause-aimed : goal.returns-clause-aimed
returns-clause-aimed g c =
    let k = c.in_ok-named.ensures in
    aimed-begun c.args.dag.now c.args.goal c.args.cone.now (g.A.Adds.lines c.clausify.new.to) _ c.in_ok-named.named.next c.requires.long k.wide k.below k.complete k.sound k.determined c.in_ok-leave_out.ensures
