use Rattle.std.proofs.Common.{◌≡◌, ◌++◌, drop}
use Rattle.rt_ddl.proofs.known.copied.Given as goal

abbrev pub invariant-loop-name : goal.invariant-loop-name
invariant-loop-name l = l.texts ++ drop l.name-index l.names ≡ l.names
