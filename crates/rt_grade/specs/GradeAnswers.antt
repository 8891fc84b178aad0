-- What a call that grades answers: the grades of a list's candidates, or why there are none. Each
-- is the answer of the run of `ratest` on the reference and that candidate alone.
use Rattle.std.specs.Prelude.{◌≡◌, ◌⊎◌, List, None, Some, Ok, Err, IsTrue, IsOk, IsOkAnd, IsSomeAnd}
use Rattle.std.specs.List.{AllZip}
use Rattle.rt_io.specs.Edge.{Rose}
use Rattle.rt_io.specs.Command.{command}
use Rattle.rt_io.specs.Ranges.{Command}
use Rattle.rt_input.specs.declared.outcome.Limit.TheVariants as limit
use Rattle.rt_input.specs.declared.outcome.Outcome.{Outcome}
use Rattle.rt_input.specs.declared.outcome.Outcome.TheVariants as outcome
use Rattle.rt_input.specs.declared.part.Part.TheVariants.{Query2}
use Rattle.rt_input.specs.Reading.{Call, IsTold, RefusedRow}
use Rattle.rt_top.specs.Answers.{AgreeRow, SpentRow, WitnessRow}
use Rattle.rt_input.specs.First.{first_judged}
use Rattle.rt_input.specs.Judged.{ReachesFirst, judged}
use Rattle.rt_input.specs.Held.{text_of}
use Rattle.rt_input.specs.Placed.{Placed}
use Rattle.rt_input.specs.Source.{IsKnown, Text, source_of}
use Rattle.rt_input.specs.Steps.{IsFirstPart, IsLong, Seen, SpeaksOf, Stops as StopsReading}
use Rattle.rt_input.specs.declared.first.First.{First}
use Rattle.rt_grade.specs.declared.grade.Grade.{Grade}
use Rattle.rt_grade.specs.declared.grade.Grade.TheVariants.{Agree, Witness, Undecided, Refused, Work, TooLong}
use Rattle.rt_grade.specs.declared.grade_fault.GradeFault.{GradeFault}
use Rattle.rt_grade.specs.declared.grade_fault.GradeFault.TheVariants.{BadList, TooManyPaths, ListLong, FileRead, Verdict}
use Rattle.rt_grade.specs.declared.grade_run.Graded.{Graded}
use Rattle.rt_grade.specs.declared.grade_words.GradeWords.{GradeWords}
use Rattle.rt_grade.specs.Candidates.{IsAmong, IsGradeOf}
use Rattle.rt_grade.specs.Listing.{list_judged}
use Rattle.rt_grade.specs.GradeWords.{alone, grade_words}

-- ---- grades

-- the grade as the answer of a call of `ratest`
abbrev pub IsAnswer : Call → Grade → Type 0
IsAnswer c Agree = AgreeRow c
IsAnswer c (Witness keep) = WitnessRow c keep
IsAnswer c (Undecided s) = SpentRow c s
IsAnswer c (Refused part fault) = RefusedRow c part fault
IsAnswer c (Work work) = IsTold c → judged c.words c.files.held ≡ Err (outcome.Limit (limit.Work work))
IsAnswer c TooLong = IsTold c → judged c.words c.files.held ≡ Err (outcome.Limit (limit.TooLong Query2))

-- the grade of a candidate is the answer over the same files on whatever arguments spell SCHEMA,
-- DATADIR, REFERENCE and the candidate with the same numbers; what reads gave is not told of it
abbrev pub IsAnswerAlone : Seen → Command → Text → Grade → Type 0
IsAnswerAlone s k path grade = (words : List Text) → command words ≡ Some (alone k path) → IsAnswer (record { words = words; files = s; readings = None }) grade

-- the reference is accepted
abbrev pub IsReferenceRead : Seen → GradeWords → Type 0
IsReferenceRead s w = IsOk (first_judged (source_of w.command) s.held)

-- one grade for each path of the list
pub record AreGradedBy (s : Seen) (g : Graded) (w : GradeWords) : Type 0 where
  pub accepted : IsTrue s.tells → IsReferenceRead s w
  pub listed : IsTrue s.tells → list_judged (s.held w.list) ≡ Ok g.paths
  pub grades : AllZip (IsAnswerAlone s w.command) g.paths g.grades

abbrev pub AreGraded : Call → Graded → Type 0
AreGraded c g = IsSomeAnd (grade_words c.words) (AreGradedBy c.files g)

-- ---- why there are none

-- what stops the reading of the schema, the tables and the reference, and speaks of these alone
pub record StopsFirst (s : Seen) (o : Outcome) (w : GradeWords) : Type 0 where
  pub stops : StopsReading s (source_of w.command) (first_judged (source_of w.command) s.held) (ReachesFirst (source_of w.command) s.held) o
  pub speaks : SpeaksOf IsFirstPart o
  pub placed : IsKnown s.tells (source_of w.command) → Placed (text_of (source_of w.command) s.held) o

-- the reference is accepted, and the list is refused as judged
pub record RefusesList (s : Seen) (fault : GradeFault) (w : GradeWords) : Type 0 where
  pub accepted : IsTrue s.tells → IsReferenceRead s w
  pub judged : IsTrue s.tells → list_judged (s.held w.list) ≡ Err fault

-- the name is that of the list, or where that is accepted of a path of it
abbrev pub IsNamedIn : Seen → GradeWords → Text → Type 0
IsNamedIn s w name = (name ≡ w.list) ⊎ (IsTrue s.tells → IsOkAnd (list_judged (s.held w.list)) (IsAmong name))

-- the reference is accepted, and the count of the list or of a candidate rose
pub record FailsToRead (s : Seen) (name : Text) (w : GradeWords) : Type 0 where
  pub accepted : IsTrue s.tells → IsReferenceRead s w
  pub rose : Rose (s.before name) (s.after name)
  pub named : IsNamedIn s w name

abbrev pub StopsVerdict : Seen → Outcome → GradeWords → Type 0
StopsVerdict s outcome.Agree w = ⊥
StopsVerdict s (outcome.Witness keep) w = ⊥
StopsVerdict s outcome.Usage w = ⊥
StopsVerdict s (outcome.Refused part fault) w = StopsFirst s (outcome.Refused part fault) w
StopsVerdict s (outcome.Spent spent) w = ⊥
StopsVerdict s (outcome.Limit limit) w = StopsFirst s (outcome.Limit limit) w
StopsVerdict s (outcome.ReadFault part) w = StopsFirst s (outcome.ReadFault part) w
StopsVerdict s outcome.WriteFault w = ⊥
StopsVerdict s outcome.NoMemory w = Unit {0}

-- what stops a call on arguments that are read
abbrev pub StopsOf : Seen → GradeFault → GradeWords → Type 0
StopsOf s (BadList at) w = RefusesList s (BadList at) w
StopsOf s TooManyPaths w = RefusesList s TooManyPaths w
StopsOf s ListLong w = IsLong s (Some w.list) × RefusesList s ListLong w
StopsOf s (FileRead name) w = FailsToRead s name w
StopsOf s (Verdict o) w = StopsVerdict s o w

abbrev pub VerdictRow : Call → Outcome → Type 0
VerdictRow c outcome.Agree = ⊥
VerdictRow c (outcome.Witness keep) = ⊥
VerdictRow c outcome.Usage = grade_words c.words ≡ None
VerdictRow c (outcome.Refused part fault) = IsSomeAnd (grade_words c.words) (StopsFirst c.files (outcome.Refused part fault))
VerdictRow c (outcome.Spent spent) = ⊥
VerdictRow c (outcome.Limit limit) = IsSomeAnd (grade_words c.words) (StopsFirst c.files (outcome.Limit limit))
VerdictRow c (outcome.ReadFault part) = IsSomeAnd (grade_words c.words) (StopsFirst c.files (outcome.ReadFault part))
VerdictRow c outcome.WriteFault = ⊥
VerdictRow c outcome.NoMemory = Unit {0}

-- when each comes
abbrev pub Stops : Call → GradeFault → Type 0
Stops c (BadList at) = IsSomeAnd (grade_words c.words) (StopsOf c.files (BadList at))
Stops c TooManyPaths = IsSomeAnd (grade_words c.words) (StopsOf c.files TooManyPaths)
Stops c ListLong = IsSomeAnd (grade_words c.words) (StopsOf c.files ListLong)
Stops c (FileRead name) = IsSomeAnd (grade_words c.words) (StopsOf c.files (FileRead name))
Stops c (Verdict o) = VerdictRow c o

-- ---- steps

-- one grade for each path of the list, with this reference
pub record AreGradedBeside (s : Seen) (w : GradeWords) (first : First) (g : Graded) : Type 0 where
  pub listed : IsTrue s.tells → list_judged (s.held w.list) ≡ Ok g.paths
  pub grades : AllZip (IsGradeOf s.tells s.held w.command first) g.paths g.grades

-- what stops the reading of the list and of its candidates
abbrev pub StopsBeside : Seen → GradeWords → GradeFault → Type 0
StopsBeside s w (BadList at) = IsTrue s.tells → list_judged (s.held w.list) ≡ Err (BadList at)
StopsBeside s w TooManyPaths = IsTrue s.tells → list_judged (s.held w.list) ≡ Err TooManyPaths
StopsBeside s w ListLong = IsLong s (Some w.list) × (IsTrue s.tells → list_judged (s.held w.list) ≡ Err ListLong)
StopsBeside s w (FileRead name) = Rose (s.before name) (s.after name) × IsNamedIn s w name
StopsBeside s w (Verdict o) = o ≡ outcome.NoMemory
