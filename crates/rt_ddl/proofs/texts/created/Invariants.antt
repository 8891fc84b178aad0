use Rattle.std.proofs.Common.{◌≡◌, ◌∷◌, ◌++◌, drop, map}
use Rattle.rt_ddl.specs.Parts.{table_text}
use Rattle.rt_ddl.proofs.texts.created.Given as goal

abbrev pub invariant-loop-create : goal.invariant-loop-create
invariant-loop-create l = l.tables ++ map table_text (drop l.create-index l.tail) ≡ table_text l.head ∷ map table_text l.tail
