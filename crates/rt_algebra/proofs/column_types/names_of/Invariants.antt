use Rattle.std.proofs.Common.{◌≡◌, ◌++◌, drop, map}
use Rattle.rt_algebra.proofs.column_types.names_of.Given as goal

abbrev pub invariant-loop-column : goal.invariant-loop-column
invariant-loop-column g l = l.names ++ map g.C.Column.name_of (drop l.column-index l.columns) ≡ map g.C.Column.name_of l.columns
