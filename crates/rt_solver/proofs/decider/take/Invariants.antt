use Rattle.std.proofs.Common.{◌≡◌, length}
use Rattle.rt_solver.specs.Picking.{HasOpen, held_count}
use Rattle.rt_solver.proofs.decider.take.Given as goal

abbrev pub invariant-held : goal.invariant-held
invariant-held l = record {
  len : length l.heap ≡ length l.fn.heap;
  held : HasOpen l.bound l.heap l.trail.steps;
}

abbrev pub decreases-held : goal.decreases-held
decreases-held l = held_count l.heap
