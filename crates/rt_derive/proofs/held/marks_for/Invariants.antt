use Rattle.std.proofs.Common.{◌≤◌, ◌^◌}
use Rattle.rt_derive.proofs.held.marks_for.Given as goal

abbrev pub invariant-loop-lit : goal.invariant-loop-lit
invariant-loop-lit l = l.room ≤ 2 ^ 63
