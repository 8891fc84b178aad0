use Rattle.std.proofs.Common.{◌≡◌, take, not}
use Rattle.std.specs.List.{filter}
use Rattle.rt_algebra.specs.Answer.{has_row}
use Rattle.rt_eval.proofs.lists.difference.Given as goal

abbrev pub invariant-loop-row : goal.invariant-loop-row
invariant-loop-row l =
    l.out ≡ filter (λ r. not (has_row l.set r)) (take l.row-index l.rows)
