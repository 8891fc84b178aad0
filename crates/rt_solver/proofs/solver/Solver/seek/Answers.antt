use Rattle.std.proofs.Common.{refl, Some}
use Rattle.rt_solver.proofs.Founds.{searched-none}
use Rattle.rt_solver.proofs.solver.Solver.seek.Goals as goal

pub returns-then-self-clause-searched : goal.returns-then-self-clause-searched
returns-then-self-clause-searched g c = searched-none _ _ _ _ c.args.assume (Some c.args.question) c.args.first _ refl refl
