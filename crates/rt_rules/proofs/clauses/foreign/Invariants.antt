use Rattle.std.proofs.Common.{◌≤◌, length, drop}
use Rattle.rt_formula.specs.Shared.{IsGrown}
use Rattle.rt_schema.specs.Kept.{kept_rows}
use Rattle.rt_schema.specs.Law.{foreign_holds}
use Rattle.rt_rules.specs.Meaning.{MeanAll, IsIndexed}
use Rattle.rt_rules.proofs.KeptLemmas.{since}
use Rattle.rt_rules.proofs.clauses.foreign.Given as goal

abbrev pub invariant-rows : goal.invariant-rows
invariant-rows l = record {
  grown : IsGrown l.fn.dag l.dag;
  within : l.at ≤ length l.rows;
  indexed : IsIndexed l.dag l.groups l.rule.to l.others l.others_base;
  clauses : MeanAll l.dag l.clauses (λ keep. foreign_holds l.rule.from l.rule.to (kept_rows l.others (drop l.others_base keep)) (since l.rows l.base l.at keep));
}

abbrev pub decreases-rows : goal.decreases-rows
decreases-rows l = l.at
