use Rattle.std.proofs.Common.{◌≡◌, ◌+◌, ◌-◌, ◌^◌, ◌≤◌, drop}
use Rattle.rt_schema.specs.Capped.{capped}
use Rattle.rt_schema.specs.LawWork.{rules_pairs}
use Rattle.rt_schema.proofs.pairs.rules_pairs.Given as goal

abbrev pub invariant-loop-rule : goal.invariant-loop-rule
invariant-loop-rule l = record {
  small : l.pairs ≤ 2 ^ 127 - 1;
  pairs : capped (l.pairs + rules_pairs (drop l.rule-index l.rules) l.rows l.all) ≡ capped (rules_pairs l.rules l.rows l.all);
}
