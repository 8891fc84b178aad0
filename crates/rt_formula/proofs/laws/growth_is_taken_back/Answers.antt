use Rattle.rt_formula.proofs.Growth.{taken_back}
use Rattle.rt_formula.proofs.laws.growth_is_taken_back.Goals as goal

pub returns : goal.returns
returns c = taken_back
