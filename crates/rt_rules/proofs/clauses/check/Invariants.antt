use Rattle.std.proofs.Common.{◌≤◌, length}
use Rattle.rt_formula.specs.Shared.{IsGrown}
use Rattle.rt_schema.specs.Law.{check_holds}
use Rattle.rt_rules.specs.Meaning.{MeanAll}
use Rattle.rt_rules.proofs.KeptLemmas.{since}
use Rattle.rt_rules.proofs.clauses.check.Given as goal

abbrev pub invariant-rows : goal.invariant-rows
invariant-rows l = record {
  grown : IsGrown l.fn.dag l.dag;
  within : l.at ≤ length l.rows;
  clauses : MeanAll l.dag l.clauses (λ keep. check_holds l.check (since l.rows l.base l.at keep));
}

abbrev pub decreases-rows : goal.decreases-rows
decreases-rows l = l.at
