use Rattle.std.proofs.Common.{◌≡◌, map, drop, pos}
use Rattle.rt_value.specs.declared.value.Value.TheVariants.{Int}
use Rattle.rt_algebra.specs.Expression.{wrapped, value_by, term_by, sum_from, mul_from}
use Rattle.rt_algebra.proofs.evaluate.+value.Given as goal

abbrev pub invariant-sum-loop-term : goal.invariant-sum-loop-term
invariant-sum-loop-term l =
    sum_from wrapped l.sum (map (term_by wrapped) (drop l.term-index l.terms)) (map (λ r. r.now) l.env)
    ≡ sum_from wrapped (Int (pos 0)) (map (term_by wrapped) l.terms) (map (λ r. r.now) l.env)

abbrev pub invariant-product-loop-member : goal.invariant-product-loop-member
invariant-product-loop-member l =
    mul_from wrapped l.product (map (value_by wrapped) (drop l.member-index l.members)) (map (λ r. r.now) l.env)
    ≡ mul_from wrapped (Int (pos 1)) (map (value_by wrapped) l.members) (map (λ r. r.now) l.env)
