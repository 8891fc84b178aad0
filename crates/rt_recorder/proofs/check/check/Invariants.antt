use Rattle.std.proofs.Common.{◌≡◌, ◌++◌, take}
use Rattle.rt_recorder.specs.Checking.{AreAccepted, clauses}
use Rattle.rt_recorder.proofs.check.check.Given as goal

abbrev pub invariant-loop-i : goal.invariant-loop-i
invariant-loop-i l = record {
  lines : l.to.lines ≡ l.fn.to.lines ++ clauses (take l.i l.steps);
  accepted : AreAccepted l.fn.to.lines (take l.i l.steps);
}
