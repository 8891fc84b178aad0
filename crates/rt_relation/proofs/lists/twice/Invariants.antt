use Rattle.std.proofs.Common.{◌≡◌, drop}
use Rattle.rt_relation.specs.Columns.{twice}
use Rattle.rt_relation.proofs.lists.twice.Given as goal

abbrev pub invariant-loop-name : goal.invariant-loop-name
invariant-loop-name l = record {
  at : l.at ≡ l.name-index;
  same : twice l.names l.name-index (drop l.name-index l.names) ≡ twice l.names 0 l.names;
}
