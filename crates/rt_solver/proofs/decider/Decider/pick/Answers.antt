use Rattle.std.proofs.Common.{sym, subst}
use Rattle.rt_solver.specs.Picking.{Picking, HasOpen}
use Rattle.rt_solver.proofs.decider.Decider.pick.Goals as goal

pub take-requires-clause-open : goal.take-requires-clause-open
take-requires-clause-open c = let P : Picking → Type 0 = λ p. HasOpen p.bound p.held c.args.trail.now.steps in subst P (sym c.self.view_is) c.requires.offered.heaped
