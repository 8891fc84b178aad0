use Rattle.rt_ddl_tree.proofs.TreeLemmas.{one_tree}
use Rattle.rt_ddl_tree.proofs.reader.one_tree.Goals as goal

pub returns : goal.returns
returns c = one_tree
