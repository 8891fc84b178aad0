use Rattle.std.proofs.Common.{◌≡◌, length}
use Rattle.rt_resolve.specs.Shapes.{same_kinds}
use Rattle.rt_resolve.proofs.shape.same_kinds.Given as goal

abbrev pub invariant-kinds : goal.invariant-kinds
invariant-kinds l = same_kinds l.left l.right ≡ same_kinds l.kinds l.others

abbrev pub decreases-kinds : goal.decreases-kinds
decreases-kinds l = length l.left
