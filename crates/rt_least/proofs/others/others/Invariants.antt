use Rattle.std.proofs.Common.{◌≡◌, ◌<◌}
use Rattle.rt_value.specs.Keep.{size}
use Rattle.rt_least.specs.Aimed.{IsUnderWay}
use Rattle.rt_least.proofs.others.others.Given as goal

abbrev pub invariant-others : goal.invariant-others
invariant-others l = record {
  rows : l.rows ≡ l.fn.dag.rows;
  named : l.named.rows ≡ l.fn.dag.rows;
  way : IsUnderWay l.fn.dag l.fn.goal l.fn.cone l.solver.0.lines l.named.next l.counter l.best;
  room : size l.best < l.fn.dag.rows;
}

abbrev pub decreases-others : goal.decreases-others
decreases-others l = size l.best
