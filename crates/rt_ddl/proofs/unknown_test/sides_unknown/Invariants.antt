use Rattle.std.proofs.Common.{◌≡◌, drop}
use Rattle.rt_ddl.specs.Meaning.{sides_unknown}
use Rattle.rt_ddl.proofs.unknown_test.sides_unknown.Given as goal

abbrev pub invariant-loop-side : goal.invariant-loop-side
invariant-loop-side l = sides_unknown l.table.parts (drop l.side-index l.sides) ≡ sides_unknown l.table.parts l.sides
