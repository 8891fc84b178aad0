use Rattle.std.proofs.Common.{◌≡◌, ◌++◌, length}
use Rattle.rt_relation.specs.Columns.{renamed}
use Rattle.rt_ra.proofs.renaming.renamed.Given as goal

abbrev pub invariant-names : goal.invariant-names
invariant-names l = l.all ++ renamed l.left l.right ≡ renamed l.names l.columns

abbrev pub decreases-names : goal.decreases-names
decreases-names l = length l.left
