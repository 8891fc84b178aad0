use Rattle.std.proofs.Common.{◌≡◌, length}
use Rattle.rt_algebra.specs.TextColumns.{same_kinds}
use Rattle.rt_algebra.proofs.united.same_kinds.Given as goal

abbrev pub invariant-columns : goal.invariant-columns
invariant-columns g l = same_kinds g.C.Column.kind_of l.left l.right ≡ same_kinds g.C.Column.kind_of l.columns l.others

abbrev pub decreases-columns : goal.decreases-columns
decreases-columns g l = length l.left
