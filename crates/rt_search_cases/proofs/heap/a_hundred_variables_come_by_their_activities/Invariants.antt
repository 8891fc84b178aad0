use Rattle.std.proofs.Common.{◌≡◌, length}
use Rattle.rt_search_cases.proofs.heap.a_hundred_variables_come_by_their_activities.Given as goal

abbrev pub invariant-loop-var : goal.invariant-loop-var
invariant-loop-var g l = length l.heap ≡ 100
