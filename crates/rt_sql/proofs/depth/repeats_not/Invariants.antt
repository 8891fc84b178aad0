use Rattle.std.proofs.Common.{◌≡◌, ◌≤◌, ◌+◌, drop}
use Rattle.std.specs.Prelude.{codes}
use Rattle.rt_sql.specs.Depth.{is_word, repeats}
use Rattle.rt_token.specs.Words.{kinds}
use Rattle.rt_sql.proofs.depth.repeats_not.Given as goal

abbrev pub invariant-loop-token : goal.invariant-loop-token
invariant-loop-token l = record {
  same : repeats (is_word (codes "not")) l.run (kinds (drop l.token-index l.tokens)) ≡ repeats (is_word (codes "not")) 0 (kinds l.tokens);
  within : l.run ≤ l.token-index;
}
