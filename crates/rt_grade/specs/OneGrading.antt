-- One answer for a list of candidates: a call that ends in grades could have ended in no other ones.
-- Where a budget of conflicts is spent is free, and so is the place that a syntax error names.
use Rattle.std.specs.Prelude.{◌≡◌, List, Some, ⊤}
use Rattle.std.specs.List.{AllZip}
use Rattle.rt_io.specs.Command.{command}
use Rattle.rt_io.specs.Ranges.{Command}
use Rattle.rt_input.specs.Faults.{placeless}
use Rattle.rt_input.specs.Reading.{Call}
use Rattle.rt_input.specs.Source.{Text}
use Rattle.rt_top.specs.One.{AreAlike}
use Rattle.rt_grade.specs.declared.grade.Grade.{Grade}
use Rattle.rt_grade.specs.declared.grade.Grade.TheVariants.{Undecided, Refused}
use Rattle.rt_grade.specs.declared.grade_run.Graded.{Graded}
use Rattle.rt_grade.specs.declared.grade_words.GradeWords.{GradeWords}
use Rattle.rt_grade.specs.GradeAnswers.{AreGraded}
use Rattle.rt_grade.specs.GradeWords.{alone, grade_words}

-- all but a budget that is spent
abbrev pub IsDecided : Grade → Type 0
IsDecided (Undecided s) = ⊥
IsDecided _ = ⊤

-- the grade without the place of a syntax error
abbrev pub without_place : Grade → Grade
without_place (Refused part fault) = Refused part (placeless fault)
without_place grade = grade

-- neither is undecided, so they are one
abbrev pub AreOne : Grade → Grade → Type 0
AreOne grade other = IsDecided grade → IsDecided other → without_place grade ≡ without_place other

-- some arguments mean the command
abbrev pub HasSpelling : Command → Type 0
HasSpelling k = (words : List Text) × (command words ≡ Some k)

-- The call on each candidate alone, which its grade is the answer of, has a spelling. Two calls on
-- the same arguments and contents have the same paths and grades.
pub record HasOneGrading : Type 0 where
  pub spelled : (words : List Text) (w : GradeWords) → grade_words words ≡ Some w → (path : Text) → HasSpelling (alone w.command path)
  pub answer : (a b : Call) → AreAlike a b → (x y : Graded) → AreGraded a x → AreGraded b y → (x.paths ≡ y.paths) × AllZip AreOne x.grades y.grades
