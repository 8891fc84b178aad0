use Rattle.std.proofs.Common.{◌≡◌, take}
use Rattle.std.specs.List.{All as Each}
use Rattle.rt_formula.specs.Runs.{StandsOver}
use Rattle.rt_formula.proofs.runs.length_over.Given as goal

abbrev pub invariant-loop-node : goal.invariant-loop-node
invariant-loop-node l = record {
  place : l.length ≡ l.node-index;
  over : Each (StandsOver l.dag l.first) (take l.length l.of);
}
