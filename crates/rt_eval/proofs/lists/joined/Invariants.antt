use Rattle.std.proofs.Common.{◌≡◌, ◌++◌, drop}
use Rattle.rt_algebra.specs.Answer.{pairs}
use Rattle.rt_eval.proofs.lists.joined.Given as goal

abbrev pub invariant-loop-row : goal.invariant-loop-row
invariant-loop-row l =
    l.out ++ pairs (drop l.row-index l.rows) l.others ≡ pairs l.rows l.others
