use Rattle.std.proofs.Common.{◌≡◌, ◌+◌, drop}
use Rattle.std.specs.List.{list_any}
use Rattle.rt_schema.specs.Kept.{kept_rows}
use Rattle.rt_schema.specs.Cells.{agree}
use Rattle.rt_schema.proofs.law.agrees_with_one.Given as goal

abbrev pub invariant-loop-at : goal.invariant-loop-at
invariant-loop-at l = list_any (agree l.from l.to l.row) (kept_rows l.others (drop l.base l.keep))
    ≡ list_any (agree l.from l.to l.row) (kept_rows (drop l.at l.others) (drop (l.base + l.at) l.keep))
