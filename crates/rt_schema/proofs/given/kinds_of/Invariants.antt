use Rattle.std.proofs.Common.{◌≡◌, ◌++◌, drop}
use Rattle.rt_schema.specs.Schema.{kinds_of}
use Rattle.rt_schema.proofs.given.kinds_of.Given as goal

abbrev pub invariant-loop-column : goal.invariant-loop-column
invariant-loop-column l = l.kinds ++ kinds_of (drop l.column-index l.columns) ≡ kinds_of l.columns
