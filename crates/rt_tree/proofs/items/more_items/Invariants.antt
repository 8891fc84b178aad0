use Rattle.std.proofs.Common.{length}
use Rattle.rt_token.proofs.Loops.{Goes}
use Rattle.rt_tree.specs.Reads.{item_step}
use Rattle.rt_tree.proofs.items.more_items.Given as goal

abbrev pub invariant-items : goal.invariant-items
invariant-items l = Goes item_step l.items l.rest l.terminals

abbrev pub decreases-items : goal.decreases-items
decreases-items l = length l.rest
