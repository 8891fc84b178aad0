use Rattle.rt_store.proofs.Number.{number-small, number-grows, number-kept}
use Rattle.rt_solver.proofs.laws.number_grows.Goals as goal

pub returns : goal.returns
returns c = record { kept = number-kept; grows = number-grows; small = number-small }
