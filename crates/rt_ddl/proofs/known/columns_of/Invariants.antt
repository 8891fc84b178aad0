use Rattle.std.proofs.Common.{◌≡◌, ◌++◌, drop}
use Rattle.rt_ddl.specs.Meaning.{columns_of}
use Rattle.rt_ddl.proofs.known.columns_of.Given as goal

abbrev pub invariant-loop-part : goal.invariant-loop-part
invariant-loop-part l = l.columns ++ columns_of (drop l.part-index l.parts) ≡ columns_of l.parts
