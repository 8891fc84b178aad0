use Rattle.std.proofs.Common.{◌≡◌, ◌+◌, ◌-◌, ◌^◌, ◌≤◌, drop}
use Rattle.rt_schema.specs.Capped.{capped}
use Rattle.rt_schema.specs.LawWork.{tables_pairs}
use Rattle.rt_schema.proofs.pairs.law_work.Given as goal

abbrev pub invariant-loop-at : goal.invariant-loop-at
invariant-loop-at l = record {
  small : l.pairs ≤ 2 ^ 127 - 1;
  pairs : capped (l.pairs + tables_pairs (drop l.at l.schema) (drop l.at l.all) l.all) ≡ capped (tables_pairs l.schema l.all l.all);
}
