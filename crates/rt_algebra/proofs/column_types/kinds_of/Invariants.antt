use Rattle.std.proofs.Common.{◌≡◌, ◌++◌, drop, map}
use Rattle.rt_algebra.proofs.column_types.kinds_of.Given as goal

abbrev pub invariant-loop-column : goal.invariant-loop-column
invariant-loop-column g l = l.kinds ++ map g.C.Column.kind_of (drop l.column-index l.columns) ≡ map g.C.Column.kind_of l.columns
