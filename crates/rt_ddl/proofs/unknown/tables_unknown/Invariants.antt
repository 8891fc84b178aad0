use Rattle.std.proofs.Common.{◌≡◌, drop}
use Rattle.rt_ddl.specs.Meaning.{tables_unknown}
use Rattle.rt_ddl.proofs.unknown.tables_unknown.Given as goal

abbrev pub invariant-loop-table : goal.invariant-loop-table
invariant-loop-table l = tables_unknown l.tables (drop l.table-index l.tables) ≡ tables_unknown l.tables l.tables
