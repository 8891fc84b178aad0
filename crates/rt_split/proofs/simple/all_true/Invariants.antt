use Rattle.std.proofs.Common.{◌≡◌, map, drop}
use Rattle.rt_algebra.specs.Expression.{wrapped}
use Rattle.rt_split.specs.Split.{all_simple}
use Rattle.rt_split.proofs.simple.all_true.Given as goal

abbrev pub invariant-loop-condition : goal.invariant-loop-condition
invariant-loop-condition l =
    all_simple wrapped (drop l.condition-index l.conditions) (map (λ r. r.now) l.env) ≡ all_simple wrapped l.conditions (map (λ r. r.now) l.env)
