-- One answer: a call that ends in agreement or in a witness could have ended in no other one.
use Rattle.std.specs.Prelude.{◌≡◌, ℕ, Bool, List, ⊤}
use Rattle.rt_least.specs.declared.best.Best.{Best}
use Rattle.rt_least.specs.declared.best.Best.TheVariants.{Least, Never, Spent}
use Rattle.rt_input.specs.declared.outcome.Outcome.{Outcome}
use Rattle.rt_input.specs.declared.outcome.Outcome.TheVariants as outcome
use Rattle.rt_input.specs.Accepted.{Accepted}
use Rattle.rt_input.specs.Held.{Holding}
use Rattle.rt_input.specs.Reading.{Call, IsGiven, IsTold}
use Rattle.rt_top.specs.Answers.{IsTextOf}
use Rattle.rt_top.specs.Smallest.{Agrees, IsSmallest}
use Rattle.rt_top.specs.GivenUp.{IsVerdict}

-- a smallest counterexample, or that there is none
abbrev pub IsFinal : Best → Type 0
IsFinal (Least keep) = ⊤
IsFinal Never = ⊤
IsFinal (Spent s) = ⊥

-- agreement or a witness
abbrev pub IsDecided : Outcome → Type 0
IsDecided outcome.Agree = ⊤
IsDecided (outcome.Witness keep) = ⊤
IsDecided _ = ⊥

-- two calls on the same arguments and the same known contents
pub record AreAlike (a b : Call) : Type 0 where
  pub words : a.words ≡ b.words
  pub held : a.files.held ≡ b.files.held
  pub told : IsTold a
  pub told_too : IsTold b

-- two calls on the same arguments, and contents that fit what the reads of both gave
pub record AreGivenAlike (a b : Call) : Type 0 where
  pub words : a.words ≡ b.words
  pub held : Holding
  pub fits : IsGiven held a
  pub fits_too : IsGiven held b

-- At most one choice of rows is smallest, and none is where there is no counterexample. Two
-- verdicts on one input are the same. Two calls on the same arguments and contents have the same
-- answer and text; so have two calls to which the reads gave the same.
pub record HasOneAnswer : Type 0 where
  pub one : (input : Accepted) (s t : List Bool) → IsSmallest input s → IsSmallest input t → s ≡ t
  pub none : (input : Accepted) (s : List Bool) → IsSmallest input s → Agrees input → ⊥
  pub verdict : (input : Accepted) (a b : Best) → IsFinal a → IsFinal b → IsVerdict input a → IsVerdict input b → a ≡ b
  pub answer : (a b : Call) → AreAlike a b → (o p : Outcome) → IsDecided o → IsDecided p → (said told : List ℕ) → IsTextOf a o said → IsTextOf b p told → (o ≡ p) × (said ≡ told)
  pub given : (a b : Call) → AreGivenAlike a b → (o p : Outcome) → IsDecided o → IsDecided p → (said told : List ℕ) → IsTextOf a o said → IsTextOf b p told → (o ≡ p) × (said ≡ told)
