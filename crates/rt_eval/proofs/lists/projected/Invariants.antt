use Rattle.std.proofs.Common.{◌≡◌, ◌∷◌, map, take}
use Rattle.rt_algebra.specs.Expression.{wrapped, row_by}
use Rattle.rt_eval.proofs.lists.projected.Given as goal

abbrev pub invariant-loop-source : goal.invariant-loop-source
invariant-loop-source l =
    l.out ≡ map (λ r. row_by wrapped l.items (r ∷ map (λ s. s.now) l.env)) (take l.source-index l.rows)
