use Rattle.std.proofs.Common.{◌≡◌, ◌++◌, length}
use Rattle.rt_algebra.specs.TextColumns.{widened}
use Rattle.rt_algebra.proofs.united.widened.Given as goal

abbrev pub invariant-columns : goal.invariant-columns
invariant-columns g l = l.all ++ widened g.C.Column.bound_of g.C.Column.bounded l.left l.right ≡ widened g.C.Column.bound_of g.C.Column.bounded l.columns l.others

abbrev pub decreases-columns : goal.decreases-columns
decreases-columns g l = length l.left
