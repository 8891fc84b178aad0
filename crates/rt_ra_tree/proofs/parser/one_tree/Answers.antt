use Rattle.rt_ra_tree.proofs.TreeLemmas.{one-tree}
use Rattle.rt_ra_tree.proofs.parser.one_tree.Goals as goal

pub returns : goal.returns
returns c = one-tree
