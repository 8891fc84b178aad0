use Rattle.std.proofs.Common.{◌≡◌, ◌++◌, drop, map}
use Rattle.rt_print.specs.Texts.{counted, row_lines}
use Rattle.rt_print.proofs.witness.put_rows.Given as goal

abbrev pub invariant-loop-row : goal.invariant-loop-row
invariant-loop-row l = l.text ++ row_lines (map (λ row. row.now) (drop l.row-index l.row-items)) ≡ l.fn.text ++ counted l.title (map (λ row. row.now) l.row-items)
