use Rattle.rt_split.specs.Split.{moved_pred}
use Rattle.rt_algebra.proofs.Steps.{drop_more}
use Rattle.rt_split.proofs.Steps.{all_step}
use Rattle.rt_split.proofs.moved.+moved.Goals as goal

pub moved_preds-loop-pred-preserved : goal.moved_preds-loop-pred-preserved
moved_preds-loop-pred-preserved t c =
    let i = c.loop-pred.pred-index in
    let x = c.pred-item.result in
    all_step (moved_pred c.args.base c.args.width) c.args.preds.now i x c.loop-pred.out _ _ _ _ (drop_more c.args.preds.now i x c.loop-pred-test.true c.pred-item.is) c.in_ok-pred.ensures c.in-Some.is c.in_ok-push-in-Some.ensures.ok c.loop-pred.invariant
