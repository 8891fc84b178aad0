use Rattle.rt_ra_tree.proofs.WholeLemmas.{read_is_tree}
use Rattle.rt_ra_tree.proofs.parser.read_is_tree.Goals as goal

pub returns : goal.returns
returns c = read_is_tree
