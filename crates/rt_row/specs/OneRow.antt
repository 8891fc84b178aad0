-- One answer on a row: a call that ends with a choice, with none or with what is wrong with the row
-- could have ended in no other way.
use Rattle.std.specs.Prelude.{◌≡◌, ℕ, Bool, List, ⊤}
use Rattle.rt_value.specs.declared.value.Value.{Value}
use Rattle.rt_least.specs.Least.{IsLeast}
use Rattle.rt_input.specs.Accepted.{Accepted}
use Rattle.rt_input.specs.Reading.{Call}
use Rattle.rt_top.specs.One.{AreAlike}
use Rattle.rt_row.specs.RowVerdicts.{HoldsIn, IsRowAnswer}
use Rattle.rt_row.specs.declared.outcome.RowAnswer.{RowAnswer}
use Rattle.rt_row.specs.declared.outcome.RowVerdict.{RowVerdict}
use Rattle.rt_row.specs.declared.outcome.RowVerdict.TheVariants.{Witness, Never, Spent, Refused}

-- all but a budget that is spent
abbrev pub IsDecided : RowVerdict → Type 0
IsDecided (Witness keep) = ⊤
IsDecided Never = ⊤
IsDecided (Spent s) = ⊥
IsDecided (Refused fault) = ⊤

-- At most one choice of rows is the first of the smallest. Two calls on the same arguments, row and
-- contents have the same verdict and text.
pub record HasOneRowAnswer : Type 0 where
  pub one : (input : Accepted) (row : List Value) (s t : List Bool) → IsLeast (HoldsIn input row) s → IsLeast (HoldsIn input row) t → s ≡ t
  pub answer : (a b : Call) → AreAlike a b → (text : List ℕ) (x y : RowAnswer) → IsDecided x.verdict → IsDecided y.verdict → IsRowAnswer a text x → IsRowAnswer b text y → (x.verdict ≡ y.verdict) × (x.text ≡ y.text)
