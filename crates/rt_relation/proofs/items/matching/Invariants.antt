use Rattle.std.proofs.Common.{◌≡◌, ◌++◌, drop}
use Rattle.rt_relation.specs.Operators.{matching}
use Rattle.rt_relation.proofs.items.matching.Given as goal

abbrev pub invariant-loop-column : goal.invariant-loop-column
invariant-loop-column l = l.conds ++ matching l.up l.start l.at (drop l.column-index l.columns) l.others ≡ matching l.up l.start 0 l.columns l.others
