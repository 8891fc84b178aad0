use Rattle.std.proofs.Common.{◌≡◌, ◌≤◌, ◌+◌, length}
use Rattle.rt_token.specs.Terminals.{skip}
use Rattle.rt_sql.proofs.looks.skip.Given as goal

abbrev pub invariant-terminals : goal.invariant-terminals
invariant-terminals l = record {
  same : skip l.rest l.open ≡ skip l.terminals 0;
  within : l.open + length l.rest ≤ length l.terminals;
}

abbrev pub decreases-terminals : goal.decreases-terminals
decreases-terminals l = length l.rest
