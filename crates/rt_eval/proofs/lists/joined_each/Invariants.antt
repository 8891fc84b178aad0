use Rattle.std.proofs.Common.{◌≡◌, ◌++◌, drop}
use Rattle.rt_algebra.specs.Answer.{join_each}
use Rattle.rt_eval.proofs.lists.joined_each.Given as goal

abbrev pub invariant-loop-other : goal.invariant-loop-other
invariant-loop-other l =
    l.out ++ join_each l.row (drop l.other-index l.others) ≡ l.fn.out ++ join_each l.row l.others
