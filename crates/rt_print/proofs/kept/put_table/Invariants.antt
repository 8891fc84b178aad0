use Rattle.std.proofs.Common.{◌≡◌, ◌++◌, ◌+◌, drop}
use Rattle.rt_print.specs.Texts.{table_lines}
use Rattle.rt_print.proofs.kept.put_table.Given as goal

abbrev pub invariant-loop-i : goal.invariant-loop-i
invariant-loop-i l = l.text ++ table_lines l.name (l.i + 1) (drop l.i l.rows) (drop l.i l.keep) ≡ l.fn.text ++ table_lines l.name 1 l.rows l.keep
