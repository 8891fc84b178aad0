use Rattle.rt_schema.proofs.GivenLemmas.{instance-set}
use Rattle.rt_schema.proofs.given.Given.fill.Goals as goal

pub invariant_of-self : goal.invariant_of-self
invariant_of-self c = rw c.set.ensures (instance-set (record { kinds = c.self.inside.kinds; tables = c.self.inside.tables })
    c.args.table c.args.rows c.self.invariant (rw (← c.self.view_is) at c.requires.in_range) (rw (← c.self.view_is) at c.requires.empty)
    (rw (← c.self.view_is) at c.requires.suit) (rw (← c.self.view_is) at c.requires.room))
