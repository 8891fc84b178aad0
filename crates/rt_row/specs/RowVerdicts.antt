-- The verdict on one named row of an accepted input.
use Rattle.std.specs.Prelude.{◌≡◌, ℕ, Bool, false, List, length, Some, Ok, Err}
use Rattle.rt_value.specs.declared.value.Value.{Value}
use Rattle.rt_schema.specs.Given.{places}
use Rattle.rt_least.specs.Least.{IsLeast, IsSpentBest}
use Rattle.rt_row.specs.Rows.{is_memory, row_read}
use Rattle.rt_row.specs.Holds.{Holds, holds_at}
use Rattle.rt_input.specs.Accepted.{Accepted}
use Rattle.rt_input.specs.Reading.{Call, IsRead}
use Rattle.rt_row.specs.declared.outcome.RowAnswer.{RowAnswer}
use Rattle.rt_row.specs.declared.outcome.RowVerdict.{RowVerdict}
use Rattle.rt_row.specs.declared.outcome.RowVerdict.TheVariants.{Witness, Never, Spent, Refused}
use Rattle.rt_row.specs.Said.{row_text}

-- a lawful choice of the rows of an input at which its first query alone answers with the row
abbrev pub HoldsIn : Accepted → List Value → List Bool → Type 0
HoldsIn input row = Holds input.schema input.given input.left input.right row

-- what is found of a row
abbrev pub Finds : Accepted → List Value → RowVerdict → Type 0
Finds input row (Witness keep) = IsLeast (HoldsIn input row) keep
Finds input row Never = (keep : List Bool) → length keep ≡ places input.given.tables → holds_at input.schema input.given input.left input.right row keep ≡ false
Finds input row (Spent s) = (input.conflicts ≡ Some s.budget) × IsSpentBest (places input.given.tables) (HoldsIn input row) s.budget s.best s.least s.nogoods
Finds input row (Refused fault) = ⊥

-- the row that the text is, in the columns of the first query
abbrev pub FindsRow : Accepted → List ℕ → RowVerdict → Type 0
FindsRow input text v = (row : List Value) × (row_read text input.left.kinds ≡ Ok row) × Finds input row v

-- the verdict on the row that a text is, or why it is none
abbrev pub Judges : Accepted → List ℕ → RowVerdict → Type 0
Judges input text (Witness keep) = FindsRow input text (Witness keep)
Judges input text Never = FindsRow input text Never
Judges input text (Spent s) = FindsRow input text (Spent s)
Judges input text (Refused fault) = (is_memory fault ≡ false) × (row_read text input.left.kinds ≡ Err fault)

-- the answer on an input that was read in the call
pub record IsRowAnswer (c : Call) (text : List ℕ) (a : RowAnswer) : Type 0 where
  pub input : Accepted
  pub read : IsRead c input
  pub judges : Judges input text a.verdict
  pub said : a.text ≡ row_text input a.verdict
