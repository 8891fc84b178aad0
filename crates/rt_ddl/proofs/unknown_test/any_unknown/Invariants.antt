use Rattle.std.proofs.Common.{◌≡◌, drop}
use Rattle.rt_ddl.specs.Meaning.{any_unknown}
use Rattle.rt_ddl.proofs.unknown_test.any_unknown.Given as goal

abbrev pub invariant-loop-part : goal.invariant-loop-part
invariant-loop-part l = any_unknown l.table.parts (drop l.part-index l.parts) ≡ any_unknown l.table.parts l.parts
