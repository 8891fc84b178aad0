use Rattle.std.proofs.Common.{◌≡◌, ◌+◌, ◌||◌, drop, not}
use Rattle.std.specs.List.{list_all}
use Rattle.rt_schema.specs.Kept.{kept_rows}
use Rattle.rt_schema.specs.Cells.{agree, same_in}
use Rattle.rt_schema.proofs.law.determines.Given as goal

abbrev pub invariant-loop-at : goal.invariant-loop-at
invariant-loop-at l = list_all (λ other. not (agree l.from l.from l.row other) || same_in l.to l.row other) (kept_rows l.others (drop l.base l.keep))
    ≡ list_all (λ other. not (agree l.from l.from l.row other) || same_in l.to l.row other) (kept_rows (drop l.at l.others) (drop (l.base + l.at) l.keep))
