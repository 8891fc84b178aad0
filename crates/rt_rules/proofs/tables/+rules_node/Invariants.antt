use Rattle.std.proofs.Common.{length}
use Rattle.rt_rules.proofs.tables.+rules_node.Given as goal

abbrev pub decreases-rules_node : goal.decreases-rules_node
decreases-rules_node l = length l.rules.now
