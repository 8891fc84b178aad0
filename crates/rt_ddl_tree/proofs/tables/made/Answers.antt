use Rattle.rt_ddl_tree.proofs.TextLaws.{item-shorter}
use Rattle.rt_ddl_tree.proofs.tables.made.Goals as goal

pub in_parentheses-requires : goal.in_parentheses-requires
in_parentheses-requires c = item-shorter
