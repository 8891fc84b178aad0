use Rattle.std.proofs.Common.{length}
use Rattle.rt_token.proofs.Loops.{Goes}
use Rattle.rt_ra_tree.specs.Reads.{test_step}
use Rattle.rt_ra_tree.proofs.conditions.more_tests.Given as goal

abbrev pub invariant-items : goal.invariant-items
invariant-items l = Goes test_step l.items l.rest l.terminals

abbrev pub decreases-items : goal.decreases-items
decreases-items l = length l.rest
