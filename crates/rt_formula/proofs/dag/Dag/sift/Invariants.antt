use Rattle.std.proofs.Common.{◌≡◌, List, ◌<◌, Bool, length, take}
use Rattle.std.specs.List.{All as Each}
use Rattle.rt_formula.specs.Shared.{val}
use Rattle.rt_formula.specs.Gathering.{gate_value}
use Rattle.rt_formula.proofs.dag.Dag.sift.Given as goal

abbrev pub invariant-loop-a : goal.invariant-loop-a
invariant-loop-a l = record {
  below : Each (λ n. n < length l.fn.self.entries) l.kept;
  same : (keep : List Bool) → gate_value l.gate (val l.fn.self keep) l.kept ≡ gate_value l.gate (val l.fn.self keep) (take l.a-index l.of);
}
