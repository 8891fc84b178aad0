use Rattle.rt_sql.proofs.TreeLemmas.{one-tree}
use Rattle.rt_sql.proofs.parser.one_tree.Goals as goal

pub returns : goal.returns
returns c = one-tree
