use Rattle.std.proofs.Common.{◌≡◌, drop}
use Rattle.rt_ddl.specs.Meaning.{parts_unknown}
use Rattle.rt_ddl.proofs.unknown.parts_unknown.Given as goal

abbrev pub invariant-loop-part : goal.invariant-loop-part
invariant-loop-part l = parts_unknown l.tables l.table.parts (drop l.part-index l.parts) ≡ parts_unknown l.tables l.table.parts l.table.parts
