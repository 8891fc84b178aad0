use Rattle.std.proofs.Common.{take}
use Rattle.std.specs.List.{All as Each}
use Rattle.rt_algebra.specs.Stays.{StaysPred, StaysQuery}
use Rattle.rt_algebra.proofs.closed.+closed.Given as goal

abbrev pub invariant-queries_are_closed-loop-query : goal.invariant-queries_are_closed-loop-query
invariant-queries_are_closed-loop-query l = Each (StaysQuery l.depth) (take l.query-index l.queries)

abbrev pub invariant-preds_are_closed-loop-pred : goal.invariant-preds_are_closed-loop-pred
invariant-preds_are_closed-loop-pred l = Each (StaysPred l.depth) (take l.pred-index l.preds)
