use Rattle.std.proofs.Common.{◌≡◌, ◌<◌, ℕ, true, length}
use Rattle.rt_solver.specs.Picking.{holds}
use Rattle.rt_solver.proofs.decider.fill.Given as goal

abbrev pub invariant-loop-v : goal.invariant-loop-v
invariant-loop-v l = record {
  len : length l.heap ≡ length l.fn.heap;
  held : (w : ℕ) → w < l.v → holds l.heap w ≡ true;
}
