use Rattle.std.proofs.Common.{◌≡◌, take}
use Rattle.rt_algebra.proofs.same.+same_value.Given as goal

abbrev pub invariant-same_exprs-loop-at : goal.invariant-same_exprs-loop-at
invariant-same_exprs-loop-at l = take l.at l.a ≡ take l.at l.b

abbrev pub invariant-same_terms-loop-at : goal.invariant-same_terms-loop-at
invariant-same_terms-loop-at l = take l.at l.a ≡ take l.at l.b
