use Rattle.std.proofs.Common.{length}
use Rattle.rt_token.proofs.Loops.{Goes}
use Rattle.rt_sql.specs.Reads.{comma_sum_step}
use Rattle.rt_sql.proofs.ranges.more_sums.Given as goal

abbrev pub invariant-items : goal.invariant-items
invariant-items l = Goes comma_sum_step l.items l.rest l.terminals

abbrev pub decreases-items : goal.decreases-items
decreases-items l = length l.rest
