use Rattle.std.proofs.Common.{◌≡◌}
use Rattle.rt_value.specs.Keep.{size}
use Rattle.rt_least.specs.Aimed.{IsUnderWay}
use Rattle.rt_least.proofs.lowering.lower.Given as goal

abbrev pub invariant-lower : goal.invariant-lower
invariant-lower l = record {
  rows : l.rows ≡ l.fn.dag.rows;
  way : IsUnderWay l.fn.dag l.fn.goal l.fn.cone l.solver.0.lines l.fn.named.next l.counter l.best;
}

abbrev pub decreases-lower : goal.decreases-lower
decreases-lower l = size l.best
