use Rattle.rt_ddl_tree.proofs.ColumnLaws.{name-shorter}
use Rattle.rt_ddl_tree.proofs.columns.names.Goals as goal

pub in_parentheses-requires : goal.in_parentheses-requires
in_parentheses-requires c = name-shorter
