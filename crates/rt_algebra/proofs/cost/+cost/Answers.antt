use Rattle.rt_algebra.specs.Work.{pred_work, query_cost}
use Rattle.rt_algebra.proofs.Steps.{drop_more, sum_step, product_step}
use Rattle.rt_algebra.proofs.cost.+cost.Goals as goal

pub preds_work-loop-member-preserved : goal.preds_work-loop-member-preserved
preds_work-loop-member-preserved t c =
    let i = c.loop-member.member-index in
    let x = c.member-item.result in
    sum_step (pred_work c.args.given.now) c.args.members.now i x c.loop-member.work _ _ _ (drop_more c.args.members.now i x c.loop-member-test.true c.member-item.is) c.pred_work.ensures c.capped_add-work.ensures c.loop-member.invariant

pub product_cost-loop-member-preserved : goal.product_cost-loop-member-preserved
product_cost-loop-member-preserved t c =
    let i = c.loop-member.member-index in
    let x = c.member-item.result in
    product_step (query_cost c.args.given.now) c.args.members.now i x c.loop-member.front _ _ _ (drop_more c.args.members.now i x c.loop-member-test.true c.member-item.is) c.query_cost.ensures c.after.ensures c.loop-member.invariant
