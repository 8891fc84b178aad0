use Rattle.std.proofs.Common.{◌≡◌, map, drop}
use Rattle.rt_split.specs.Split.{some_true, names_pred}
use Rattle.rt_split.proofs.moved.+names.Given as goal

abbrev pub invariant-any_pred_names-loop-pred : goal.invariant-any_pred_names-loop-pred
invariant-any_pred_names-loop-pred l = some_true (map names_pred (drop l.pred-index l.preds)) ≡ some_true (map names_pred l.preds)
