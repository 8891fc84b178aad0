use Rattle.std.proofs.Common.{length}
use Rattle.rt_token.proofs.Loops.{Goes}
use Rattle.rt_ddl_tree.specs.Reads.{create_step}
use Rattle.rt_ddl_tree.proofs.tables.more_creates.Given as goal

abbrev pub invariant-items : goal.invariant-items
invariant-items l = Goes create_step l.items l.rest l.terminals

abbrev pub decreases-items : goal.decreases-items
decreases-items l = length l.rest
