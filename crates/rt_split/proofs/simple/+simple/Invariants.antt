use Rattle.std.proofs.Common.{◌≡◌, map, drop}
use Rattle.rt_value.specs.Truth.{truth_and, truth_or}
use Rattle.rt_algebra.specs.Expression.{wrapped}
use Rattle.rt_split.specs.Split.{simple_by, simple_all, simple_any}
use Rattle.rt_split.proofs.simple.+simple.Given as goal

abbrev pub invariant-all-loop-member : goal.invariant-all-loop-member
invariant-all-loop-member l =
    truth_and l.truth (simple_all (map (simple_by wrapped) (drop l.member-index l.members)) (map (λ r. r.now) l.env))
    ≡ simple_all (map (simple_by wrapped) l.members) (map (λ r. r.now) l.env)

abbrev pub invariant-any-loop-member : goal.invariant-any-loop-member
invariant-any-loop-member l =
    truth_or l.truth (simple_any (map (simple_by wrapped) (drop l.member-index l.members)) (map (λ r. r.now) l.env))
    ≡ simple_any (map (simple_by wrapped) l.members) (map (λ r. r.now) l.env)
