use Rattle.std.proofs.Common.{◌≡◌, ◌++◌, drop, map}
use Rattle.rt_ddl.specs.Meaning.{table_of}
use Rattle.rt_ddl.proofs.build.tables_of.Given as goal

abbrev pub invariant-loop-text : goal.invariant-loop-text
invariant-loop-text l = l.tables ++ map (table_of l.texts) (drop l.text-index l.texts) ≡ map (table_of l.texts) l.texts
