use Rattle.std.proofs.Common.{◌≡◌, ◌++◌, take}
use Rattle.rt_eval.proofs.lists.appended.Given as goal

abbrev pub invariant-loop-row : goal.invariant-loop-row
invariant-loop-row l =
    l.out ≡ l.fn.rows ++ take l.row-index l.more
