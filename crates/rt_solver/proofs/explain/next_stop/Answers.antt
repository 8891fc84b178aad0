use Rattle.std.proofs.Common.{◌∙◌, sym, length, arith}
use Rattle.rt_solver.proofs.Stops.{none-due}
use Rattle.rt_solver.proofs.explain.next_stop.Goals as goal

pub returns-then-not-one : goal.returns-then-not-one
returns-then-not-one c =
    none-due c.args.walk.now.marks c.args.trail.now.steps (length c.args.walk.now.found.items) c.args.place (sym c.due.ensures ∙ c.if-due-eq0.true) (λ o. c.if-not-one.true (let k = c.args.walk.now.found.ok in let e = c.len-one.ensures in omega (arith, e, k, o))) c.requires.counted
