use Rattle.std.proofs.Common.{◌≡◌, drop}
use Rattle.rt_scope.specs.Relations.{table_named}
use Rattle.rt_scope.proofs.table.table_named.Given as goal

abbrev pub invariant-loop-next : goal.invariant-loop-next
invariant-loop-next l = record {
  same_name : l.name ≡ l.fn.name;
  walked : table_named l.table l.fn.name l.at (drop l.next-index l.tables) ≡ table_named l.table l.fn.name l.first l.tables;
}
