use Rattle.std.proofs.Common.{length}
use Rattle.rt_rules.proofs.tables.+tables_node.Given as goal

abbrev pub decreases-tables_node : goal.decreases-tables_node
decreases-tables_node l = length l.tables.now
