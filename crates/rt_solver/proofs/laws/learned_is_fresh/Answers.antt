use Rattle.rt_store.proofs.FreshLaws.{first_law}
use Rattle.rt_solver.proofs.laws.learned_is_fresh.Goals as goal

pub returns : goal.returns
returns c = first_law
