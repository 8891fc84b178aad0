use Rattle.std.proofs.Common.{◌≡◌, ◌++◌, drop}
use Rattle.rt_schema.specs.Schema.{schema_kinds}
use Rattle.rt_schema.proofs.given.schema_kinds.Given as goal

abbrev pub invariant-loop-table : goal.invariant-loop-table
invariant-loop-table l = l.kinds ++ schema_kinds (drop l.table-index l.tables) ≡ schema_kinds l.tables
