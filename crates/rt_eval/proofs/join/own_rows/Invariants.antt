use Rattle.std.proofs.Common.{◌≡◌, ◌∷◌, map, take}
use Rattle.std.specs.List.{filter}
use Rattle.rt_algebra.specs.Expression.{wrapped}
use Rattle.rt_split.specs.Split.{all_simple}
use Rattle.rt_eval.proofs.join.own_rows.Given as goal

abbrev pub invariant-loop-row : goal.invariant-loop-row
invariant-loop-row l = l.out ≡ filter (λ r. all_simple wrapped l.conditions (r ∷ map (λ s. s.now) l.env)) (take l.row-index l.rows)
