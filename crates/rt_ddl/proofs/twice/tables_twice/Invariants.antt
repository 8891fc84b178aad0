use Rattle.std.proofs.Common.{◌≡◌, [], drop, take}
use Rattle.rt_ddl.specs.Meaning.{tables_twice}
use Rattle.rt_ddl.specs.Places.{table_names}
use Rattle.rt_ddl.proofs.twice.tables_twice.Given as goal

abbrev pub invariant-loop-table : goal.invariant-loop-table
invariant-loop-table l = record {
  names : l.names ≡ table_names (take l.table-index l.tables);
  rest : tables_twice (take l.table-index l.tables) (drop l.table-index l.tables) ≡ tables_twice [] l.tables;
}
