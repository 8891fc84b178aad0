use Rattle.std.proofs.Common.{◌≤◌, ◌+◌, length, drop}
use Rattle.rt_formula.specs.Shared.{IsGrown}
use Rattle.rt_schema.specs.Law.{key_holds}
use Rattle.rt_rules.specs.Meaning.{MeanAll, IsIndexed}
use Rattle.rt_rules.proofs.KeptLemmas.{since}
use Rattle.rt_rules.proofs.clauses.key.Given as goal

abbrev pub invariant-rows : goal.invariant-rows
invariant-rows l = record {
  grown : IsGrown l.fn.dag l.dag;
  within : l.at ≤ length l.rows;
  later : IsIndexed l.dag l.later l.columns (drop l.at l.rows) (l.base + l.at);
  clauses : MeanAll l.dag l.clauses (λ keep. key_holds l.columns (since l.rows l.base l.at keep));
}

abbrev pub decreases-rows : goal.decreases-rows
decreases-rows l = l.at
