use Rattle.std.proofs.Common.{◌≡◌, ◌++◌, drop}
use Rattle.rt_ddl.specs.Parts.{names_of, texts_of}
use Rattle.rt_ddl.proofs.texts.names_of.Given as goal

abbrev pub invariant-loop-name : goal.invariant-loop-name
invariant-loop-name l = l.texts ++ texts_of (drop l.name-index l.names.tail) ≡ names_of l.names
