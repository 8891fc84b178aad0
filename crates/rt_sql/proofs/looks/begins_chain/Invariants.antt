use Rattle.std.proofs.Common.{◌≡◌, length}
use Rattle.rt_sql.specs.Reads.{begins_chain}
use Rattle.rt_sql.proofs.looks.begins_chain.Given as goal

abbrev pub invariant-open : goal.invariant-open
invariant-open l = begins_chain l.rest ≡ begins_chain l.terminals

abbrev pub decreases-open : goal.decreases-open
decreases-open l = length l.rest
