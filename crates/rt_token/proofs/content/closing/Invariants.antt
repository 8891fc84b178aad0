use Rattle.std.proofs.Common.{◌≡◌, ◌≤◌, ◌-◌, length, drop}
use Rattle.std.specs.String.{string_bytes}
use Rattle.std.specs.Str.{IsCharBoundary}
use Rattle.rt_token.specs.Lexed.{closing}
use Rattle.rt_token.proofs.ContentLemmas.{with_content}
use Rattle.rt_token.proofs.content.closing.Given as goal

abbrev pub invariant-runs : goal.invariant-runs
invariant-runs l = record {
  so_far : with_content (string_bytes l.content) (l.start - l.from) (closing l.quote (drop l.start l.text)) ≡ closing l.quote (drop l.from l.text);
  order : l.from ≤ l.start;
  within : l.start ≤ length l.text;
  boundary : IsCharBoundary l.text l.start;
}

abbrev pub decreases-runs : goal.decreases-runs
decreases-runs l = length l.text - l.start
