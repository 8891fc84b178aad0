use Rattle.std.proofs.Common.{◌≡◌, ◌≤◌, ◌+◌, drop}
use Rattle.rt_tree.specs.Nesting.{opens_too_many}
use Rattle.rt_token.specs.Words.{kinds}
use Rattle.rt_tree.proofs.nesting.opens_too_many.Given as goal

abbrev pub invariant-loop-token : goal.invariant-loop-token
invariant-loop-token l = record {
  same : opens_too_many l.opened l.closed (kinds (drop l.token-index l.tokens)) ≡ opens_too_many 0 0 (kinds l.tokens);
  opened : l.opened ≤ l.token-index;
  closed : l.closed ≤ l.token-index;
}
