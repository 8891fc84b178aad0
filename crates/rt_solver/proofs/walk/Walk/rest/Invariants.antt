use Rattle.std.proofs.Common.{◌≡◌, length}
use Rattle.rt_solver.proofs.walk.Walk.rest.Given as goal

abbrev pub invariant-marks : goal.invariant-marks
invariant-marks l = record {
  len : length l.self.marks.marks ≡ length l.fn.self.marks.marks;
  picking : l.decider ≡ l.fn.decider;
  found : l.self.found.items ≡ l.fn.self.found.items;
}

abbrev pub decreases-marks : goal.decreases-marks
decreases-marks l = length l.self.marks.marked
