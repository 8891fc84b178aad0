use Rattle.std.proofs.Common.{length}
use Rattle.rt_rules.proofs.links.+link_tables.Given as goal

abbrev pub decreases-link_tables : goal.decreases-link_tables
decreases-link_tables l = length l.tables.now
