use Rattle.std.proofs.Common.{◌≡◌, length}
use Rattle.rt_search_cases.proofs.heap.raise.Given as goal

abbrev pub invariant-loop : goal.invariant-loop
invariant-loop l = length l.heap ≡ length l.initial.heap
