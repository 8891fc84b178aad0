use Rattle.std.proofs.Common.{◌≡◌, drop}
use Rattle.rt_ra.specs.Unary.{table_named}
use Rattle.rt_ra.proofs.table.table_named.Given as goal

abbrev pub invariant-loop-table : goal.invariant-loop-table
invariant-loop-table l = table_named l.name l.at (drop l.table-index l.tables) ≡ table_named l.name 0 l.tables
