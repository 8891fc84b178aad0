use Rattle.std.proofs.Common.{arith}
use Rattle.rt_solver.proofs.Picks.{grown}
use Rattle.rt_solver.proofs.decider.Decider.begin.Goals as goal

pub fill-requires : goal.fill-requires
fill-requires c = let g = grown c.self.inside.heap c.grow.new.self c.args.vars c.in_ok-grow.ensures.ok in let l = c.lower.ensures in let r = c.requires in omega (arith, g, l, r)

pub returns-clause-offered : goal.returns-clause-offered
returns-clause-offered c steps = record { heaped = λ v b o. c.fill.ensures.held v b; passed = λ v l m. absurd (omega (arith, l, m)) }
