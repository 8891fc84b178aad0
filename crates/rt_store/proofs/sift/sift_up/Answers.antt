use Rattle.std.proofs.Common.{◌∙◌, ap, arith}
use Rattle.rt_store.specs.Members.{members}
use Rattle.rt_store.proofs.Membership.{members-exchanged}
use Rattle.rt_store.proofs.sift.sift_up.Goals as goal

pub loop-place-preserved : goal.loop-place-preserved
loop-place-preserved c = (
  omega (arith, c.loop-place.invariant.0),
  λ n h. ap (members n) c.swap.ensures ∙ members-exchanged n _ _ c.loop-place.order (omega (arith, h, c.loop-place.invariant.0)) (omega (arith, h, c.loop-place.invariant.0)) ∙ c.loop-place.invariant.1 n h,
)
