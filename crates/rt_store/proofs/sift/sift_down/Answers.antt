use Rattle.std.proofs.Common.{◌∙◌, ap, arith}
use Rattle.rt_store.specs.Members.{members}
use Rattle.rt_store.proofs.Membership.{members-exchanged}
use Rattle.rt_store.proofs.sift.sift_down.Goals as goal

pub loop-place-preserved : goal.loop-place-preserved
loop-place-preserved c =
    ap (members c.args.count) c.swap.ensures
    ∙ members-exchanged c.args.count c.loop-place.place c.first_below-below.result c.loop-place.order (omega (arith, c.first_below-below.ensures.later, c.first_below-below.ensures.within)) c.first_below-below.ensures.within
    ∙ c.loop-place.invariant
