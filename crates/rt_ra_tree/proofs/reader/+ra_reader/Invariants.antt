use Rattle.std.proofs.Common.{◌+◌, ◌*◌}
use Rattle.rt_ra_tree.proofs.reader.+ra_reader.Given as goal

abbrev pub decreases-ra : goal.decreases-ra
decreases-ra l = 4 * l.depth

abbrev pub decreases-first : goal.decreases-first
decreases-first l = 4 * l.depth + 1

abbrev pub decreases-last : goal.decreases-last
decreases-last l = 4 * l.depth + 1

abbrev pub decreases-select : goal.decreases-select
decreases-select l = 4 * l.depth + 2

abbrev pub decreases-named : goal.decreases-named
decreases-named l = 4 * l.depth + 2

abbrev pub decreases-two : goal.decreases-two
decreases-two l = 4 * l.depth + 2

abbrev pub decreases-applied : goal.decreases-applied
decreases-applied l = 4 * l.depth + 3
