use Rattle.std.proofs.Common.{◌≡◌, take}
use Rattle.rt_algebra.proofs.same.+same.Given as goal

abbrev pub invariant-same_queries-loop-at : goal.invariant-same_queries-loop-at
invariant-same_queries-loop-at l = take l.at l.a ≡ take l.at l.b

abbrev pub invariant-same_preds-loop-at : goal.invariant-same_preds-loop-at
invariant-same_preds-loop-at l = take l.at l.a ≡ take l.at l.b
