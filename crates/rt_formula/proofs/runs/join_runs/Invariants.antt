use Rattle.std.proofs.Common.{◌≡◌, ◌<◌, Bool, ◌||◌, List, length}
use Rattle.std.specs.List.{list_any, All as Each}
use Rattle.rt_formula.specs.Shared.{val, IsGrown}
use Rattle.rt_formula.proofs.runs.join_runs.Given as goal

abbrev pub invariant-children : goal.invariant-children
invariant-children l = record {
  grown : IsGrown l.fn.dag l.dag;
  nodes : Each (λ n. n < length l.dag.entries) l.nodes;
  left : Each (λ n. n < length l.fn.dag.entries) l.rest;
  means : (keep : List Bool) → list_any (val l.fn.dag keep) l.of ≡ (list_any (val l.dag keep) l.nodes || list_any (val l.fn.dag keep) l.rest);
}

abbrev pub decreases-children : goal.decreases-children
decreases-children l = length l.rest
