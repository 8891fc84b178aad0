use Rattle.std.proofs.Common.{◌≡◌, map, drop}
use Rattle.rt_algebra.specs.Work.{sum_from, expr_size, term_size}
use Rattle.rt_algebra.proofs.cost.+size.Given as goal

abbrev pub invariant-sizes-loop-item : goal.invariant-sizes-loop-item
invariant-sizes-loop-item l = sum_from l.size (map expr_size (drop l.item-index l.items)) ≡ sum_from l.start (map expr_size l.items)

abbrev pub invariant-term_sizes-loop-term : goal.invariant-term_sizes-loop-term
invariant-term_sizes-loop-term l = sum_from l.size (map term_size (drop l.term-index l.terms)) ≡ sum_from 1 (map term_size l.terms)
