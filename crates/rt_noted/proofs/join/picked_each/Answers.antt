use Rattle.rt_noted.proofs.Narrowing.{picked_step}
use Rattle.rt_noted.proofs.join.picked_each.Goals as goal

pub loop-place-preserved : goal.loop-place-preserved
loop-place-preserved c =
    picked_step c.args.before.now c.args.rows.now c.args.places.now c.loop-place.place-index 0 c.loop-place-test.true _ _ _ c.in_ok-with_picked.ensures c.loop-place.invariant
