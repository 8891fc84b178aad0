use Rattle.std.proofs.Common.{◌≡◌, drop}
use Rattle.rt_relation.specs.Columns.{shared}
use Rattle.rt_relation.proofs.lists.shared.Given as goal

abbrev pub invariant-loop-column : goal.invariant-loop-column
invariant-loop-column l = shared (drop l.column-index l.columns) l.others ≡ shared l.columns l.others
