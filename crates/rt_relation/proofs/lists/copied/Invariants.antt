use Rattle.std.proofs.Common.{◌≡◌, ◌++◌, drop}
use Rattle.rt_relation.proofs.lists.copied.Given as goal

abbrev pub invariant-loop-column : goal.invariant-loop-column
invariant-loop-column l = l.all ++ drop l.column-index l.columns ≡ l.columns
