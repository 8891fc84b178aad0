use Rattle.std.proofs.Common.{◌≡◌, ◌++◌, replicate}
use Rattle.rt_totalizer.proofs.cells.followed.Given as goal

abbrev pub invariant-loop : goal.invariant-loop
invariant-loop l = l.list ≡ l.front ++ replicate l.counter l.never
