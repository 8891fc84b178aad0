use Rattle.std.proofs.Common.{◌≡◌, ◌+◌, drop}
use Rattle.rt_schema.specs.Kept.{kept_rows}
use Rattle.rt_schema.specs.Law.{not_null_holds}
use Rattle.rt_schema.proofs.law.not_null_holds.Given as goal

abbrev pub invariant-loop-at : goal.invariant-loop-at
invariant-loop-at l = not_null_holds l.column (kept_rows l.rows (drop l.base l.keep))
    ≡ not_null_holds l.column (kept_rows (drop l.at l.rows) (drop (l.base + l.at) l.keep))
