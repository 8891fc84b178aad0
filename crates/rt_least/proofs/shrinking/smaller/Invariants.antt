use Rattle.std.proofs.Common.{◌≡◌, length}
use Rattle.rt_least.specs.Sought.{IsSought}
use Rattle.rt_least.proofs.shrinking.smaller.Given as goal

abbrev pub invariant-loop-i : goal.invariant-loop-i
invariant-loop-i l = record {
  long : length l.best ≡ l.rows;
  sought : IsSought l.fn.dag l.fn.goal l.fn.cone l.best;
}
