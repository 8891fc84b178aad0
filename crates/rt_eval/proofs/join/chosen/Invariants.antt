use Rattle.std.proofs.Common.{◌≡◌, ◌∷◌, [], map, drop}
use Rattle.rt_algebra.specs.Expression.{wrapped}
use Rattle.rt_split.specs.Join.{joined_rows}
use Rattle.rt_eval.specs.Pairs.{all_joined}
use Rattle.rt_eval.proofs.join.chosen.Given as goal

abbrev pub invariant-loop-at : goal.invariant-loop-at
invariant-loop-at l =
    joined_rows wrapped (drop l.at l.parts.own) (drop l.at l.parts.keys) (all_joined l.pairs.befores l.pairs.rows l.pairs.places) (drop l.at l.members) (map (λ s. s.now) l.env)
    ≡ joined_rows wrapped l.parts.own l.parts.keys ([] ∷ []) l.members (map (λ s. s.now) l.env)
