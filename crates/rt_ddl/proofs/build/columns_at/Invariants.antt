use Rattle.std.proofs.Common.{◌≡◌, ◌++◌, drop}
use Rattle.rt_ddl.specs.Meaning.{columns_at, columns_of}
use Rattle.rt_ddl.proofs.build.columns_at.Given as goal

abbrev pub invariant-loop-name : goal.invariant-loop-name
invariant-loop-name l = l.places ++ columns_at (columns_of l.table.parts) (drop l.name-index l.names) ≡ columns_at (columns_of l.table.parts) l.names
