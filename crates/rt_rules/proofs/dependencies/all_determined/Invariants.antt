use Rattle.std.proofs.Common.{◌≤◌, ◌+◌, length, drop}
use Rattle.rt_formula.specs.Shared.{IsGrown}
use Rattle.rt_schema.specs.Law.{depend_holds}
use Rattle.rt_rules.specs.Meaning.{MeanAll, IsIndexed}
use Rattle.rt_rules.proofs.KeptLemmas.{since}
use Rattle.rt_rules.proofs.dependencies.all_determined.Given as goal

abbrev pub invariant-rows : goal.invariant-rows
invariant-rows l = record {
  grown : IsGrown l.fn.dag l.dag;
  within : l.at ≤ length l.rows;
  alike : IsIndexed l.dag l.alike l.rule.from (drop l.at l.rows) (l.base + l.at);
  same : IsIndexed l.dag l.same l.columns (drop l.at l.rows) (l.base + l.at);
  clauses : MeanAll l.dag l.clauses (λ keep. depend_holds l.rule.from l.rule.to (since l.rows l.base l.at keep));
}

abbrev pub decreases-rows : goal.decreases-rows
decreases-rows l = l.at
