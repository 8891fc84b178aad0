use Rattle.std.proofs.Common.{◌≡◌, ◌≤◌, ◌<◌, ◌+◌, ◌-◌, ◌*◌, ◌^◌}
use Rattle.rt_least.specs.Order.{IsNext}
use Rattle.rt_least.proofs.Asking.{IsSettled}
use Rattle.rt_least.proofs.in_order.in_order.Given as goal

abbrev pub invariant-first : goal.invariant-first
invariant-first l = record {
  rows : l.rows ≡ l.fn.dag.rows;
  small : l.rows < 2 ^ 61;
  settled : IsSettled l.fn.dag l.fn.goal l.fn.cone l.solver.0.lines l.next l.best l.place l.held;
  next_is : IsNext l.best l.place l.row;
  from : l.place ≤ l.end;
  within : l.end ≤ l.row;
  ahead : l.place < l.row → l.place < l.end;
}

abbrev pub decreases-first : goal.decreases-first
decreases-first l = (l.rows - l.place) * (l.rows + 1) + l.row
