use Rattle.rt_least.specs.Order.{IsBare}
use Rattle.rt_least.proofs.in_order.next_kept.Given as goal

abbrev pub invariant-loop-row : goal.invariant-loop-row
invariant-loop-row l = IsBare l.place l.row l.keep
