use Rattle.std.proofs.Common.{◌≡◌, ◌++◌, drop, map}
use Rattle.rt_ddl.proofs.known.names_of.Given as goal

abbrev pub invariant-loop-column : goal.invariant-loop-column
invariant-loop-column l = l.names ++ map (λ c. c.name) (drop l.column-index l.columns) ≡ map (λ c. c.name) l.columns
