use Rattle.std.proofs.Common.{◌≡◌, ◌+◌, drop}
use Rattle.rt_schema.specs.Kept.{kept_rows}
use Rattle.rt_schema.specs.Law.{check_holds}
use Rattle.rt_schema.proofs.law.check_holds.Given as goal

abbrev pub invariant-loop-at : goal.invariant-loop-at
invariant-loop-at l = check_holds l.check (kept_rows l.rows (drop l.base l.keep))
    ≡ check_holds l.check (kept_rows (drop l.at l.rows) (drop (l.base + l.at) l.keep))
