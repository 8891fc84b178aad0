use Rattle.rt_ddl_tree.proofs.TestLaws.{leaf-shorter}
use Rattle.rt_ddl_tree.proofs.checks.TestPartMember.read.Goals as goal

pub list-requires : goal.list-requires
list-requires c = leaf-shorter
