use Rattle.std.proofs.Common.{◌≡◌, ◌≤◌, ◌^◌, drop}
use Rattle.rt_solver.specs.Solving.{reach}
use Rattle.rt_solver.proofs.base.reach.Given as goal

abbrev pub invariant-loop-l : goal.invariant-loop-l
invariant-loop-l l = record {
  is : reach l.most (drop l.l-index l.lits) ≡ reach l.least l.lits;
  few : l.least ≤ 2 ^ 62 → l.most ≤ 2 ^ 62;
}
