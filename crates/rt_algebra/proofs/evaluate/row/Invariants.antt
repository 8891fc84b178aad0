use Rattle.std.proofs.Common.{◌≡◌, ◌++◌, map, drop}
use Rattle.rt_algebra.specs.Expression.{wrapped, row_by}
use Rattle.rt_algebra.proofs.evaluate.row.Given as goal

abbrev pub invariant-loop-item : goal.invariant-loop-item
invariant-loop-item l = l.row ++ row_by wrapped (drop l.item-index l.items) (map (λ r. r.now) l.env) ≡ row_by wrapped l.items (map (λ r. r.now) l.env)
