use Rattle.std.proofs.Common.{arith}
use Rattle.rt_schema.proofs.GivenLemmas.{place-below, instance-small}
use Rattle.rt_schema.proofs.given.Given.place.Goals as goal

pub base_of-requires : goal.base_of-requires
base_of-requires c = rw c.tables.ensures.same (instance-small c.args.self.now c.tables.ensures.sound)

pub overflow_add-result : goal.overflow_add-result
overflow_add-result c =
    let below = place-below c.args.table c.args.at c.args.self.now.tables c.requires in
    let small = instance-small c.args.self.now c.tables.ensures.sound in
    let same = rw c.tables.ensures.same at c.base_of.ensures in
    omega (arith, below, small, same)

pub returns-clause-in_range : goal.returns-clause-in_range
returns-clause-in_range c =
    let below = place-below c.args.table c.args.at c.args.self.now.tables c.requires in
    let same = rw c.tables.ensures.same at c.base_of.ensures in
    omega (arith, below, same)
