use Rattle.std.proofs.Common.{◌≡◌, drop}
use Rattle.rt_ddl.specs.Meaning.{missing}
use Rattle.rt_ddl.proofs.unknown.missing.Given as goal

abbrev pub invariant-loop-name : goal.invariant-loop-name
invariant-loop-name l = missing l.table.parts (drop l.name-index l.names) ≡ missing l.table.parts l.names
