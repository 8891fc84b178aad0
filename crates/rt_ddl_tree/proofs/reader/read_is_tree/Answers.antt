use Rattle.rt_ddl_tree.proofs.TreeLemmas.{read_is_tree}
use Rattle.rt_ddl_tree.proofs.reader.read_is_tree.Goals as goal

pub returns : goal.returns
returns c = read_is_tree
