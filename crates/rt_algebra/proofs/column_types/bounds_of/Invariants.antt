use Rattle.std.proofs.Common.{◌≡◌, ◌++◌, drop, map}
use Rattle.rt_algebra.proofs.column_types.bounds_of.Given as goal

abbrev pub invariant-loop-column : goal.invariant-loop-column
invariant-loop-column g l = l.bounds ++ map g.C.Column.bound_of (drop l.column-index l.columns) ≡ map g.C.Column.bound_of l.columns
