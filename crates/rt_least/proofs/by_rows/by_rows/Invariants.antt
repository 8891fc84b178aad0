use Rattle.std.proofs.Common.{◌≡◌, ◌<◌, ◌^◌}
use Rattle.rt_least.proofs.Places.{IsPlaced}
use Rattle.rt_least.proofs.by_rows.by_rows.Given as goal

abbrev pub invariant-loop-place : goal.invariant-loop-place
invariant-loop-place l = record {
  rows : l.rows ≡ l.fn.dag.rows;
  small : l.rows < 2 ^ 61;
  placed : IsPlaced l.fn.dag l.fn.goal l.fn.cone l.solver.0.lines l.next l.best l.place l.held l.left;
}
