use Rattle.rt_ddl_tree.proofs.TestLaws.{side-shorter}
use Rattle.rt_ddl_tree.proofs.checks.listed.Goals as goal

pub in_parentheses-requires : goal.in_parentheses-requires
in_parentheses-requires c = side-shorter
