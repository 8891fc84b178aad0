use Rattle.std.proofs.Common.{◌≡◌, ◌++◌, take}
use Rattle.rt_noted.proofs.rows.appended.Given as goal

abbrev pub invariant-loop-noted : goal.invariant-loop-noted
invariant-loop-noted l = l.out ≡ l.fn.rows ++ take l.noted-index l.more
