use Rattle.std.proofs.Common.{length, ◌+◌, ◌*◌}
use Rattle.rt_token.proofs.Loops.{Goes}
use Rattle.rt_tree.specs.Reads.{factor_step, read_sum, sum_step}
use Rattle.rt_tree.proofs.sums.+sum_reader.Given as goal

abbrev pub decreases-sum : goal.decreases-sum
decreases-sum l = 10 * l.depth

abbrev pub decreases-leaf : goal.decreases-leaf
decreases-leaf l = 10 * l.depth + 1

abbrev pub decreases-factor : goal.decreases-factor
decreases-factor l = 10 * l.depth + 2

abbrev pub decreases-factors : goal.decreases-factors
decreases-factors l = 10 * l.depth + 3

abbrev pub decreases-mul : goal.decreases-mul
decreases-mul l = 10 * l.depth + 4

abbrev pub decreases-sum_link : goal.decreases-sum_link
decreases-sum_link l = 10 * l.depth + 5

abbrev pub decreases-sum_links : goal.decreases-sum_links
decreases-sum_links l = 10 * l.depth + 6

abbrev pub invariant-factors-items : goal.invariant-factors-items
invariant-factors-items l = Goes (factor_step (read_sum l.depth)) l.items l.rest l.terminals

abbrev pub decreases-factors-items : goal.decreases-factors-items
decreases-factors-items l = length l.rest

abbrev pub invariant-sum_links-items : goal.invariant-sum_links-items
invariant-sum_links-items l = Goes (sum_step (read_sum l.depth)) l.items l.rest l.terminals

abbrev pub decreases-sum_links-items : goal.decreases-sum_links-items
decreases-sum_links-items l = length l.rest
