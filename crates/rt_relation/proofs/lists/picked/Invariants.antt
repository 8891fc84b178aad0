use Rattle.std.proofs.Common.{◌≡◌, [], drop}
use Rattle.rt_relation.specs.Columns.{picked}
use Rattle.rt_relation.proofs.lists.picked.Given as goal

abbrev pub invariant-loop-name : goal.invariant-loop-name
invariant-loop-name l = picked l.all (drop l.name-index l.names) l.columns ≡ picked [] l.names l.columns
