use Rattle.std.proofs.Common.{◌≡◌, ◌≤◌, ◌+◌, drop}
use Rattle.std.specs.Prelude.{count_by}
use Rattle.rt_ra_tree.specs.Depth.{is_doubling}
use Rattle.rt_token.specs.Words.{kinds}
use Rattle.rt_ra_tree.proofs.depth.doubles_too_many.Given as goal

abbrev pub invariant-loop-token : goal.invariant-loop-token
invariant-loop-token l = record {
  same : l.doubling + count_by is_doubling (kinds (drop l.token-index l.tokens)) ≡ count_by is_doubling (kinds l.tokens);
  within : l.doubling ≤ l.token-index;
}
