use Rattle.rt_ddl_tree.proofs.TestLaws.{part-shorter}
use Rattle.rt_ddl_tree.proofs.checks.test.Goals as goal

pub list-requires : goal.list-requires
list-requires c = part-shorter
