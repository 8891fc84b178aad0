use Rattle.std.proofs.Common.{◌≡◌, take}
use Rattle.std.specs.List.{filter}
use Rattle.rt_algebra.specs.Answer.{has_row}
use Rattle.rt_eval.proofs.lists.common.Given as goal

abbrev pub invariant-loop-row : goal.invariant-loop-row
invariant-loop-row l =
    l.out ≡ filter (has_row l.set) (take l.row-index l.rows)
