-- One answer on two algebra texts: a call that ends in agreement or in a witness could have ended in
-- no other one.
use Rattle.std.specs.Prelude.{◌≡◌, ℕ, Bool, IsTrue, List}
use Rattle.rt_input.specs.declared.outcome.Outcome.{Outcome}
use Rattle.rt_input.specs.Reading.{Call}
use Rattle.rt_top.specs.One.{IsDecided}
use Rattle.rt_ra_run.specs.Answers.{IsVerdictText}
use Rattle.rt_ra_run.specs.Smallest.{IsSmallest}
use Rattle.rt_ra_run.specs.declared.asked.Asked.{Asked}

-- two calls on the same arguments and the same known contents
pub record AreAlike (a b : Call) : Type 0 where
  pub words : a.words ≡ b.words
  pub held : a.files.held ≡ b.files.held
  pub told : IsTrue a.files.tells
  pub told_too : IsTrue b.files.tells

-- At most one choice of rows is smallest. Two calls on the same arguments and contents have the same
-- answer and text.
pub record HasOneAnswer : Type 0 where
  pub one : (asked : Asked) (s t : List Bool) → IsSmallest asked s → IsSmallest asked t → s ≡ t
  pub answer : (a b : Call) → AreAlike a b → (o p : Outcome) → IsDecided o → IsDecided p → (said told : List ℕ) → IsVerdictText a o said → IsVerdictText b p told → (o ≡ p) × (said ≡ told)
