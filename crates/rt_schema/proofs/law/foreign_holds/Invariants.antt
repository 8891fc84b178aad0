use Rattle.std.proofs.Common.{◌≡◌, ◌+◌, drop}
use Rattle.rt_schema.specs.Kept.{kept_rows}
use Rattle.rt_schema.specs.Law.{foreign_holds}
use Rattle.rt_schema.proofs.law.foreign_holds.Given as goal

abbrev pub invariant-loop-at : goal.invariant-loop-at
invariant-loop-at l = foreign_holds l.from l.to (kept_rows l.others (drop l.others_base l.keep)) (kept_rows l.rows (drop l.base l.keep))
    ≡ foreign_holds l.from l.to (kept_rows l.others (drop l.others_base l.keep)) (kept_rows (drop l.at l.rows) (drop (l.base + l.at) l.keep))
