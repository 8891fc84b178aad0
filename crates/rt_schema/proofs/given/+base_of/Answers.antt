use Rattle.std.proofs.Common.{arith}
use Rattle.std.proofs.lemmas.Grind.{common_steps}
use Rattle.rt_schema.proofs.GivenLemmas.{base_of-le}
use Rattle.rt_schema.proofs.given.+base_of.Goals as goal

pub overflow_add-result : goal.overflow_add-result
overflow_add-result t c = grind (arith, common_steps, base_of-le)
