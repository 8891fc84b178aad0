use Rattle.std.proofs.Common.{◌≡◌, length}
use Rattle.rt_search_cases.proofs.heap.a_million_raises_that_grow.Given as goal

abbrev pub invariant-loop-i : goal.invariant-loop-i
invariant-loop-i g l = length l.heap ≡ 10
