use Rattle.std.proofs.Common.{◌≡◌, ◌+◌, drop}
use Rattle.rt_relation.specs.Columns.{names, place}
use Rattle.rt_relation.proofs.lists.place_of.Given as goal

abbrev pub invariant-loop-column : goal.invariant-loop-column
invariant-loop-column l = record {
  at : l.at ≡ l.column-index;
  same : l.column-index + place l.name (names (drop l.column-index l.columns)) ≡ place l.name (names l.columns);
}
