use Rattle.std.proofs.Common.{◌≡◌, None, map, drop}
use Rattle.rt_algebra.specs.Work.{sum_from, pred_work, query_cost, product_from}
use Rattle.rt_algebra.proofs.cost.+cost.Given as goal

abbrev pub invariant-product_cost-loop-member : goal.invariant-product_cost-loop-member
invariant-product_cost-loop-member l =
    product_from l.front (map (query_cost l.given) (drop l.member-index l.members)) ≡ product_from None (map (query_cost l.given) l.members)

abbrev pub invariant-preds_work-loop-member : goal.invariant-preds_work-loop-member
invariant-preds_work-loop-member l =
    sum_from l.work (map (pred_work l.given) (drop l.member-index l.members)) ≡ sum_from 1 (map (pred_work l.given) l.members)
