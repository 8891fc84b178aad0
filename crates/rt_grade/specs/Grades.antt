-- The grade of a candidate: what is judged of the reference with its query as the second.
use Rattle.std.specs.Prelude.{◌≡◌, Some, Result, Ok, Err, IsTrue}
use Rattle.rt_algebra.specs.declared.typed.Typed.{Typed}
use Rattle.rt_io.specs.Ranges.{Command}
use Rattle.rt_input.specs.declared.first.First.{First}
use Rattle.rt_input.specs.declared.outcome.Limit.TheVariants as limit
use Rattle.rt_input.specs.declared.outcome.Outcome.{Outcome}
use Rattle.rt_input.specs.declared.outcome.Outcome.TheVariants as outcome
use Rattle.rt_input.specs.declared.part.Part.TheVariants.{Query2}
use Rattle.rt_input.specs.Accepted.{Accepted, IsAccepted}
use Rattle.rt_input.specs.Faults.{is_refusal, placeless}
use Rattle.rt_input.specs.Judged.{Data, accepted, like_left, query_of, then_read, within_limit}
use Rattle.rt_input.specs.Placed.{Parts, Placed}
use Rattle.rt_top.specs.Smallest.{Agrees, IsSmallest}
use Rattle.rt_top.specs.GivenUp.{IsGivenUp}
use Rattle.rt_input.specs.Source.{Text}
use Rattle.rt_grade.specs.declared.grade.Grade.{Grade}
use Rattle.rt_grade.specs.declared.grade.Grade.TheVariants.{Agree, Witness, Undecided, Refused, Work, TooLong}

-- ---- a candidate

-- its query, where it has as many columns as the reference, of the same kinds
abbrev pub right_of : First → Text → Result Typed Outcome
right_of first text = then_read (query_of Query2 first.schema text) (like_left first.left)

abbrev pub data_in : First → Data
data_in first = record { schema = first.schema; given = first.given }

-- the reference with a second query
abbrev pub beside : Command → First → Typed → Accepted
beside c first right = accepted c (data_in first) first.left right

-- the input of the reference and the candidate, or the first refusal
abbrev pub candidate_judged : Command → First → Text → Result Accepted Outcome
candidate_judged c first text = then_read (right_of first text) (λ right. within_limit (beside c first right))

-- ---- its grade

-- the outcome that a grade is
abbrev pub outcome_of : Grade → Outcome
outcome_of Agree = outcome.Agree
outcome_of (Witness keep) = outcome.Witness keep
outcome_of (Undecided s) = outcome.Spent s
outcome_of (Refused part fault) = outcome.Refused part fault
outcome_of (Work work) = outcome.Limit (limit.Work work)
outcome_of TooLong = outcome.Limit (limit.TooLong Query2)

-- the verdict on an input
abbrev pub Decides : Accepted → Grade → Type 0
Decides input Agree = Agrees input
Decides input (Witness keep) = IsSmallest input keep
Decides input (Undecided s) = (input.conflicts ≡ Some s.budget) × IsGivenUp input s.budget s.best s.least s.nogoods
Decides input (Refused part fault) = ⊥
Decides input (Work work) = ⊥
Decides input TooLong = ⊥

-- the input that is judged, of which the grade is the verdict
abbrev pub DecidesOn : Result Accepted Outcome → Grade → Type 0
DecidesOn judged grade = (input : Accepted) × (judged ≡ Ok input) × IsAccepted input × Decides input grade

-- the grade is the verdict on the input, or the refusal, that is judged; what is read is not too
-- long
abbrev pub IsGrade : Result Accepted Outcome → Grade → Type 0
IsGrade judged Agree = DecidesOn judged Agree
IsGrade judged (Witness keep) = DecidesOn judged (Witness keep)
IsGrade judged (Undecided s) = DecidesOn judged (Undecided s)
IsGrade judged (Refused part fault) = IsTrue (is_refusal fault) × (judged ≡ Err (outcome.Refused part (placeless fault)))
IsGrade judged (Work work) = judged ≡ Err (outcome.Limit (limit.Work work))
IsGrade judged TooLong = ⊥

-- a syntax error of a candidate names a place in its text
abbrev pub IsPlacedIn : Text → Outcome → Type 0
IsPlacedIn text o = (texts : Parts) → texts Query2 ≡ Ok text → Placed texts o
