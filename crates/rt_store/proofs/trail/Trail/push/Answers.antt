use Rattle.std.proofs.Common.{arith, length}
use Rattle.std.proofs.lemmas.Grind.{common_steps}
use Rattle.rt_store.proofs.Tables.{step-fits-at}
use Rattle.rt_store.proofs.trail.Trail.push.Goals as goal

pub push_reserved-requires : goal.push_reserved-requires
push_reserved-requires c =
    let f = step-fits-at c.args.self.now c.self.inside.statuses.items (length c.self.inside.places.items) c.self.inside.steps.items _ c.args.step.lit.var c.self.view_is c.self.invariant.0 c.requires.below c.requires.unset in
    let o = c.self.inside.steps.ok in omega (arith, f, o)

pub invariant_of-self : goal.invariant_of-self
invariant_of-self c = grind (arith, common_steps)

pub invariant_of-self-else-is_root : goal.invariant_of-self-else-is_root
invariant_of-self-else-is_root c = grind (arith, common_steps)
