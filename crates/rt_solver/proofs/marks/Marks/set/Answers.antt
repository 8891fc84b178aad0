use Rattle.std.proofs.Common.{◌≤◌, ◌+◌, subst, true, arith, slice_set}
use Rattle.rt_solver.specs.Marking.{Marked, marked_steps, steps_marked}
use Rattle.rt_solver.proofs.Counts.{count-set}
use Rattle.rt_solver.proofs.marks.Marks.set.Goals as goal

pub returns-in_ok-push-clause-counted : goal.returns-in_ok-push-clause-counted
returns-in_ok-push-clause-counted c n t a =
    let P : Marked → Type 0 = λ m. steps_marked (slice_set c.self.inside.marks.items c.args.v true) t + m.due ≤ marked_steps m t + (c.self.inside.due + 1) in
    subst P c.self.view_is (let s = count-set c.self.inside.marks.items c.args.v n t a in omega (arith, s))
