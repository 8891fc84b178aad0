use Rattle.std.proofs.Common.{◌≡◌, drop}
use Rattle.rt_ddl.specs.Meaning.{leaves_unknown}
use Rattle.rt_ddl.proofs.unknown_test.leaves_unknown.Given as goal

abbrev pub invariant-loop-leaf : goal.invariant-loop-leaf
invariant-loop-leaf l = leaves_unknown l.table.parts (drop l.leaf-index l.leaves) ≡ leaves_unknown l.table.parts l.leaves
