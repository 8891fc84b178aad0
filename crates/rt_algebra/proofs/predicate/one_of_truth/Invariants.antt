use Rattle.std.proofs.Common.{◌≡◌, map, drop}
use Rattle.rt_value.specs.Truth.{truth_or}
use Rattle.rt_algebra.specs.Answer.{one_of_truth}
use Rattle.rt_algebra.specs.Expression.{wrapped}
use Rattle.rt_algebra.proofs.predicate.one_of_truth.Given as goal

abbrev pub invariant-loop-item : goal.invariant-loop-item
invariant-loop-item l =
    truth_or l.truth (one_of_truth wrapped l.left (drop l.item-index l.items) (map (λ r. r.now) l.env))
    ≡ one_of_truth wrapped l.left l.items (map (λ r. r.now) l.env)
