use Rattle.std.proofs.Common.{◌≡◌, ◌+◌, ◌++◌, drop}
use Rattle.rt_schema.specs.Kept.{kept_rows}
use Rattle.rt_eval.proofs.kept.kept_rows.Given as goal

abbrev pub invariant-loop-at : goal.invariant-loop-at
invariant-loop-at l =
    l.out ++ kept_rows (drop l.at l.rows) (drop (l.base + l.at) l.keep) ≡ kept_rows l.rows (drop l.base l.keep)
