use Rattle.std.proofs.Common.{◌≡◌, ◌+◌, drop, length}
use Rattle.rt_schema.specs.Given.{places}
use Rattle.rt_schema.specs.Kept.{kept}
use Rattle.rt_schema.specs.Law.{tables_hold}
use Rattle.rt_schema.proofs.law.lawful.Given as goal

abbrev pub invariant-loop-at : goal.invariant-loop-at
invariant-loop-at l = record {
  base : l.base + places (drop l.at l.all) ≡ length l.keep;
  tables : tables_hold l.schema (kept l.all l.keep) (kept l.all l.keep)
      ≡ tables_hold (drop l.at l.schema) (kept (drop l.at l.all) (drop l.base l.keep)) (kept l.all l.keep);
}
