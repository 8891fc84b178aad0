use Rattle.std.proofs.Common.{◌≡◌, ◌++◌, drop}
use Rattle.rt_relation.specs.Operators.{own}
use Rattle.rt_relation.proofs.items.own.Given as goal

abbrev pub invariant-loop-column : goal.invariant-loop-column
invariant-loop-column l = l.items ++ own l.at (drop l._column-index l.columns) ≡ own 0 l.columns
