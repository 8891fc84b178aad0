use Rattle.std.proofs.Common.{◌≡◌, drop}
use Rattle.rt_ddl.specs.Meaning.{untyped}
use Rattle.rt_ddl.proofs.typed.untyped.Given as goal

abbrev pub invariant-loop-table : goal.invariant-loop-table
invariant-loop-table l = untyped (drop l.table-index l.tables) ≡ untyped l.tables
