use Rattle.std.proofs.Common.{◌≡◌, ◌+◌, ◌-◌, ◌^◌, ◌≤◌, drop}
use Rattle.rt_schema.specs.Capped.{capped}
use Rattle.rt_schema.specs.LawWork.{key_pairs}
use Rattle.rt_schema.proofs.pairs.key_pairs.Given as goal

abbrev pub invariant-loop-at : goal.invariant-loop-at
invariant-loop-at l = record {
  small : l.pairs ≤ 2 ^ 127 - 1;
  pairs : capped (l.pairs + key_pairs l.key (drop l.at l.rows)) ≡ capped (key_pairs l.key l.rows);
}
