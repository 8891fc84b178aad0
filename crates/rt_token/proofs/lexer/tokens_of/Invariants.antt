use Rattle.std.proofs.Common.{length, ◌-◌}
use Rattle.rt_token.specs.Layout.{AreInOrder}
use Rattle.rt_token.specs.Spelled.{AreReadings}
use Rattle.rt_token.proofs.GoesLemmas.{LexGoes}
use Rattle.rt_token.proofs.lexer.tokens_of.Given as goal

abbrev pub invariant-tokens : goal.invariant-tokens
invariant-tokens l = record {
  goes : LexGoes l.found l.at l.text;
  order : AreInOrder 0 l.found l.at;
  readings : AreReadings l.text l.found;
}

abbrev pub decreases-tokens : goal.decreases-tokens
decreases-tokens l = length l.text - l.at
