use Rattle.std.proofs.Common.{◌≡◌, ◌+◌, drop}
use Rattle.rt_schema.specs.Kept.{kept_rows}
use Rattle.rt_schema.specs.Law.{depend_holds}
use Rattle.rt_schema.proofs.law.depend_holds.Given as goal

abbrev pub invariant-loop-at : goal.invariant-loop-at
invariant-loop-at l = depend_holds l.from l.to (kept_rows l.rows (drop l.base l.keep))
    ≡ depend_holds l.from l.to (kept_rows (drop l.at l.rows) (drop (l.base + l.at) l.keep))
