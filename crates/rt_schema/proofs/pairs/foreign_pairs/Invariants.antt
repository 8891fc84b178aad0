use Rattle.std.proofs.Common.{◌≡◌, ◌+◌, ◌-◌, ◌^◌, ◌≤◌, drop}
use Rattle.rt_schema.specs.Capped.{capped}
use Rattle.rt_schema.specs.LawWork.{foreign_pairs}
use Rattle.rt_schema.proofs.pairs.foreign_pairs.Given as goal

abbrev pub invariant-loop-row : goal.invariant-loop-row
invariant-loop-row l = record {
  small : l.pairs ≤ 2 ^ 127 - 1;
  pairs : capped (l.pairs + foreign_pairs l.from l.to l.others (drop l.row-index l.rows)) ≡ capped (foreign_pairs l.from l.to l.others l.rows);
}
