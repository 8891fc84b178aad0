use Rattle.std.proofs.Common.{◌≤◌, ◌+◌, length, drop}
use Rattle.rt_formula.specs.Shared.{IsGrown}
use Rattle.rt_rules.specs.Meaning.{IsIndexed}
use Rattle.rt_rules.proofs.index.index.Given as goal

abbrev pub invariant-rows : goal.invariant-rows
invariant-rows l = record {
  grown : IsGrown l.fn.dag l.dag;
  within : l.at ≤ length l.rows;
  indexed : IsIndexed l.dag l.groups l.columns (drop l.at l.rows) (l.base + l.at);
}

abbrev pub decreases-rows : goal.decreases-rows
decreases-rows l = l.at
