-- The grades of candidates in files.
use Rattle.std.specs.Prelude.{◌≡◌, ℕ, Bool, List, Some, Ok, Err, IsTrue, slice_get}
use Rattle.rt_io.specs.Edge.{Rose}
use Rattle.rt_io.specs.Ranges.{Command}
use Rattle.rt_input.specs.declared.first.First.{First}
use Rattle.rt_input.specs.declared.outcome.Limit.TheVariants as limit
use Rattle.rt_input.specs.declared.outcome.Outcome.TheVariants as outcome
use Rattle.rt_input.specs.declared.part.Part.TheVariants.{Query2}
use Rattle.rt_input.specs.Held.{Holding, text_read}
use Rattle.rt_input.specs.Source.{Text}
use Rattle.rt_input.specs.Steps.{Seen}
use Rattle.rt_grade.specs.Grades.{IsGrade, IsPlacedIn, candidate_judged, outcome_of}
use Rattle.rt_grade.specs.declared.grade.Grade.{Grade}
use Rattle.rt_grade.specs.declared.grade.Grade.TheVariants.{Agree, Witness, Undecided, Refused, Work, TooLong}
use Rattle.rt_grade.specs.declared.grade_fault.GradeFault.{GradeFault}
use Rattle.rt_grade.specs.declared.grade_fault.GradeFault.TheVariants.{BadList, TooManyPaths, ListLong, FileRead, Verdict}

-- a text that was read of the file has this grade
abbrev pub IsGradeOfText : Bool → Holding → Command → First → Text → Grade → Type 0
IsGradeOfText tells held c first path grade =
    (text : Text) × (IsTrue tells → text_read Query2 (held path) ≡ Ok text) × IsGrade (candidate_judged c first text) grade × IsPlacedIn text (outcome_of grade)

-- the file has this grade
abbrev pub IsGradeOf : Bool → Holding → Command → First → Text → Grade → Type 0
IsGradeOf tells held c first path Agree = IsGradeOfText tells held c first path Agree
IsGradeOf tells held c first path (Witness keep) = IsGradeOfText tells held c first path (Witness keep)
IsGradeOf tells held c first path (Undecided s) = IsGradeOfText tells held c first path (Undecided s)
IsGradeOf tells held c first path (Refused part fault) = IsGradeOfText tells held c first path (Refused part fault)
IsGradeOf tells held c first path (Work work) = IsGradeOfText tells held c first path (Work work)
IsGradeOf tells held c first path TooLong = IsTrue tells → text_read Query2 (held path) ≡ Err (outcome.Limit (limit.TooLong Query2))

-- the name is one of these
abbrev pub IsAmong : Text → List Text → Type 0
IsAmong name paths = (at : ℕ) × (slice_get paths at ≡ Some name)

-- what stops the reading of a candidate: its count rose, or it is out of memory
abbrev pub CandidateStops : Seen → Text → GradeFault → Type 0
CandidateStops s path (BadList at) = ⊥
CandidateStops s path TooManyPaths = ⊥
CandidateStops s path ListLong = ⊥
CandidateStops s path (FileRead name) = (name ≡ path) × Rose (s.before name) (s.after name)
CandidateStops s path (Verdict o) = o ≡ outcome.NoMemory

-- the same of one of these candidates
abbrev pub CandidatesStop : Seen → List Text → GradeFault → Type 0
CandidatesStop s paths (BadList at) = ⊥
CandidatesStop s paths TooManyPaths = ⊥
CandidatesStop s paths ListLong = ⊥
CandidatesStop s paths (FileRead name) = IsAmong name paths × Rose (s.before name) (s.after name)
CandidatesStop s paths (Verdict o) = o ≡ outcome.NoMemory
