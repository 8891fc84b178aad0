use Rattle.std.proofs.Common.{◌≡◌, ◌<◌, ℕ, Bool, ◌&&◌, List, length, take}
use Rattle.std.specs.List.{list_any, All as Each}
use Rattle.rt_formula.specs.Runs.{StandsOver}
use Rattle.rt_formula.specs.Shared.{val, IsGrown}
use Rattle.rt_formula.proofs.runs.tails_into.Given as goal

abbrev pub invariant-loop-child : goal.invariant-loop-child
invariant-loop-child l = record {
  grown : IsGrown l.fn.dag l.dag;
  nodes : Each (λ n. n < length l.dag.entries) l.tails;
  means : (first : ℕ) → first < length l.fn.dag.entries → Each (StandsOver l.fn.dag first) l.run → (keep : List Bool)
      → list_any (val l.fn.dag keep) (take l.child-index l.run) ≡ (val l.fn.dag keep first && list_any (val l.dag keep) l.tails);
}
