use Rattle.std.proofs.Common.{◌≡◌, ◌++◌, drop, map}
use Rattle.rt_print.specs.Texts.{among}
use Rattle.rt_print.proofs.witness.among.Given as goal

abbrev pub invariant-loop-row : goal.invariant-loop-row
invariant-loop-row l = map (λ row. row.now) l.found.items ++ among l.shared (drop l.row-index l.rows) l.others ≡ among l.shared l.rows l.others
