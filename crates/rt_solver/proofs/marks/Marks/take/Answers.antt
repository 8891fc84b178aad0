use Rattle.std.proofs.Common.{◌<◌, subst, length, arith}
use Rattle.rt_solver.specs.Marking.{Marked}
use Rattle.rt_solver.proofs.Counts.{marking-take, marking-last}
use Rattle.rt_solver.proofs.marks.Marks.take.Goals as goal

pub index_mut-requires : goal.index_mut-requires
index_mut-requires c =
    let b = (marking-last c.self.inside.marks.items c.self.inside.marked.items c.pop.new.self.items c.in_ok-v.v _ c.self.invariant c.in_ok-v.ensures.items).0 in
    let o = c.self.inside.marks.ok in omega (arith, b, o)

pub invariant_of-self-2 : goal.invariant_of-self-2
invariant_of-self-2 c = marking-take c.self.inside.marks.items c.self.inside.marked.items c.pop.new.self.items c.in_ok-v.v _ c.self.invariant c.in_ok-v.ensures.items

pub returns-clause-taken : goal.returns-clause-taken
returns-clause-taken c =
    let P : Marked → Type 0 = λ m. (c.in_ok-v.v < length m.marks) × (length c.pop.new.self.items < length m.marked) in
    subst P c.self.view_is (marking-last c.self.inside.marks.items c.self.inside.marked.items c.pop.new.self.items c.in_ok-v.v _ c.self.invariant c.in_ok-v.ensures.items)
