use Rattle.std.proofs.Common.{◌≡◌, length}
use Rattle.rt_search_cases.proofs.heap.fill.Given as goal

abbrev pub invariant-loop-var : goal.invariant-loop-var
invariant-loop-var l = length l.heap ≡ length l.initial.heap
