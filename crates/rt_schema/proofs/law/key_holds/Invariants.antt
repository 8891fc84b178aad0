use Rattle.std.proofs.Common.{◌≡◌, ◌+◌, drop}
use Rattle.rt_schema.specs.Kept.{kept_rows}
use Rattle.rt_schema.specs.Law.{key_holds}
use Rattle.rt_schema.proofs.law.key_holds.Given as goal

abbrev pub invariant-loop-at : goal.invariant-loop-at
invariant-loop-at l = key_holds l.key (kept_rows l.rows (drop l.base l.keep))
    ≡ key_holds l.key (kept_rows (drop l.at l.rows) (drop (l.base + l.at) l.keep))
