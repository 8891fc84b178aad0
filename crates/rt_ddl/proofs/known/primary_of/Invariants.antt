use Rattle.std.proofs.Common.{◌≡◌, drop}
use Rattle.rt_ddl.specs.Meaning.{primary_of}
use Rattle.rt_ddl.proofs.known.primary_of.Given as goal

abbrev pub invariant-loop-part : goal.invariant-loop-part
invariant-loop-part l = primary_of (drop l.part-index l.parts) ≡ primary_of l.parts
