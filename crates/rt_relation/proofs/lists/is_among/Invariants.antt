use Rattle.std.proofs.Common.{◌≡◌, drop}
use Rattle.rt_relation.specs.Columns.{among}
use Rattle.rt_relation.proofs.lists.is_among.Given as goal

abbrev pub invariant-loop-other : goal.invariant-loop-other
invariant-loop-other l = among l.name (drop l.other-index l.names) ≡ among l.name l.names
