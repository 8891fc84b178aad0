use Rattle.std.proofs.Common.{◌≡◌, ◌≤◌, ◌+◌, drop}
use Rattle.rt_sql.specs.Depth.{is_minus, repeats}
use Rattle.rt_token.specs.Words.{kinds}
use Rattle.rt_sql.proofs.depth.repeats_minus.Given as goal

abbrev pub invariant-loop-token : goal.invariant-loop-token
invariant-loop-token l = record {
  same : repeats is_minus l.run (kinds (drop l.token-index l.tokens)) ≡ repeats is_minus 0 (kinds l.tokens);
  within : l.run ≤ l.token-index;
}
