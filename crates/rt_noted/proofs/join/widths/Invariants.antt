use Rattle.std.proofs.Common.{◌≡◌, length}
use Rattle.rt_noted.proofs.join.widths.Given as goal

abbrev pub invariant-loop-rows : goal.invariant-loop-rows
invariant-loop-rows l = length l.out ≡ l.rows-index
