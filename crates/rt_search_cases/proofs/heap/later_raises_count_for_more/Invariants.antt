use Rattle.std.proofs.Common.{◌≡◌, length}
use Rattle.rt_search_cases.proofs.heap.later_raises_count_for_more.Given as goal

abbrev pub invariant-loop : goal.invariant-loop
invariant-loop g l = length l.heap ≡ 5
