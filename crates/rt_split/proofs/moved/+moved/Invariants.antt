use Rattle.std.proofs.Common.{◌≡◌, [], map, drop}
use Rattle.rt_split.specs.Split.{all_from, moved_pred}
use Rattle.rt_split.proofs.moved.+moved.Given as goal

abbrev pub invariant-moved_preds-loop-pred : goal.invariant-moved_preds-loop-pred
invariant-moved_preds-loop-pred l =
    all_from l.out (map (moved_pred l.base l.width) (drop l.pred-index l.preds)) ≡ all_from [] (map (moved_pred l.base l.width) l.preds)
