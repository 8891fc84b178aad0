use Rattle.std.proofs.Common.{◌≡◌, ◌+◌, length}
use Rattle.rt_token.specs.Terminals.{counted}
use Rattle.rt_token.proofs.looks.counted.Given as goal

abbrev pub invariant-run : goal.invariant-run
invariant-run l = record {
  count : l.count + (counted l.fixed l.rest).0 ≡ (counted l.fixed l.terminals).0;
  rest : (counted l.fixed l.rest).1 ≡ (counted l.fixed l.terminals).1;
  within : l.count + length l.rest ≡ length l.terminals;
}

abbrev pub decreases-run : goal.decreases-run
decreases-run l = length l.rest
