use Rattle.std.proofs.Common.{◌≡◌, drop}
use Rattle.rt_scope.specs.Lookup.{seen_columns}
use Rattle.rt_scope.proofs.lookup.seen_columns.Given as goal

abbrev pub invariant-loop-column : goal.invariant-loop-column
invariant-loop-column l = seen_columns l.name l.seen l.at (drop l.column-index l.columns) ≡ seen_columns l.name l.fn.start l.first l.columns
