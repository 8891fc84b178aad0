use Rattle.std.proofs.Common.{◌≡◌, drop, map}
use Rattle.rt_ddl.specs.Meaning.{mismatched, table_of, tables_of}
use Rattle.rt_ddl.proofs.matches.mismatched.Given as goal

abbrev pub invariant-loop-table : goal.invariant-loop-table
invariant-loop-table l = mismatched (tables_of l.tables) (map (table_of l.tables) (drop l.table-index l.tables)) ≡ mismatched (tables_of l.tables) (tables_of l.tables)
