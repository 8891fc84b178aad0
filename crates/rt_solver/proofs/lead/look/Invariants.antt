use Rattle.std.proofs.Common.{◌≤◌}
use Rattle.rt_solver.specs.Marking.{marked_by}
use Rattle.rt_solver.specs.Analysis.{EachStep, IsPlain}
use Rattle.rt_solver.proofs.lead.look.Given as goal

abbrev pub invariant-look : goal.invariant-look
invariant-look l = record {
  order : l.i ≤ l.place;
  passed : EachStep (IsPlain (marked_by l.marks) l.decisions) l.trail.steps l.i l.place;
}

abbrev pub decreases-look : goal.decreases-look
decreases-look l = l.i
