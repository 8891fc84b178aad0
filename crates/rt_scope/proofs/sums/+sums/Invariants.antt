use Rattle.std.proofs.Common.{◌≡◌, drop, map}
use Rattle.rt_scope.specs.Sums.{added_all, factor, link, multiplied_all}
use Rattle.rt_scope.proofs.sums.+sums.Given as goal

abbrev pub invariant-multiplied_all-loop-next : goal.invariant-multiplied_all-loop-next
invariant-multiplied_all-loop-next l =
    multiplied_all l.all (map factor (drop l.next-index l.factors)) (map (λ s. s.now) l.scopes) ≡ multiplied_all l.fn.product (map factor l.factors) (map (λ s. s.now) l.scopes)

abbrev pub invariant-added_all-loop-next : goal.invariant-added_all-loop-next
invariant-added_all-loop-next l =
    added_all l.all (map link (drop l.next-index l.links)) (map (λ s. s.now) l.scopes) ≡ added_all l.fn.sum (map link l.links) (map (λ s. s.now) l.scopes)
