use Rattle.std.proofs.Common.{◌≡◌, drop}
use Rattle.rt_ddl.specs.Meaning.{tables_excess}
use Rattle.rt_ddl.proofs.limits.check_limits.Given as goal

abbrev pub invariant-loop-table : goal.invariant-loop-table
invariant-loop-table l = tables_excess (drop l.table-index l.tables) ≡ tables_excess l.tables
