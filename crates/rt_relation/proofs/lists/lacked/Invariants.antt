use Rattle.std.proofs.Common.{◌≡◌, drop}
use Rattle.rt_relation.specs.Columns.{lacked}
use Rattle.rt_relation.proofs.lists.lacked.Given as goal

abbrev pub invariant-loop-column : goal.invariant-loop-column
invariant-loop-column l = lacked (drop l.column-index l.columns) l.others ≡ lacked l.columns l.others
