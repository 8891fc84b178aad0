use Rattle.std.proofs.Common.{◌≡◌, length}
use Rattle.rt_answer_cases.proofs.choices.choice.Given as goal

abbrev pub invariant-loop-place : goal.invariant-loop-place
invariant-loop-place g l = length l.keep ≡ l.places
