use Rattle.std.proofs.Common.{◌∙◌}
use Rattle.rt_derive.proofs.Marks.{widened}
use Rattle.rt_derive.proofs.held.Held.make_room.Goals as goal

pub invariant_of-self : goal.invariant_of-self
invariant_of-self c =
    widened c.self.inside.marks.items c.widen.new.marks.items c.self.inside.far.keys c.self.inside.lits.items c.self.invariant (c.self.view_is ∙ c.clear.ensures) c.widen.ensures.longer c.widen.ensures.same
