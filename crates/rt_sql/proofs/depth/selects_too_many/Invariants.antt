use Rattle.std.proofs.Common.{◌≡◌, ◌≤◌, ◌+◌, drop}
use Rattle.std.specs.Prelude.{codes, count_by}
use Rattle.rt_sql.specs.Depth.{is_word}
use Rattle.rt_token.specs.Words.{kinds}
use Rattle.rt_sql.proofs.depth.selects_too_many.Given as goal

abbrev pub invariant-loop-token : goal.invariant-loop-token
invariant-loop-token l = record {
  same : l.selects + count_by (is_word (codes "select")) (kinds (drop l.token-index l.tokens)) ≡ count_by (is_word (codes "select")) (kinds l.tokens);
  within : l.selects ≤ l.token-index;
}
