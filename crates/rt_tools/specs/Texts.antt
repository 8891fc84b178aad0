-- The text of each outcome, the sink that it belongs to, and the status of the program.
use Rattle.std.specs.Prelude.{ℕ, List, [], ◌∷◌, ◌++◌, length, codes, decimal}
use Rattle.rt_io.specs.declared.place.Place.{Place}
use Rattle.rt_io.specs.declared.place.Place.TheVariants as at
use Rattle.rt_value.specs.Keep.{size}
use Rattle.rt_input.specs.declared.outcome.Outcome.{Outcome}
use Rattle.rt_input.specs.Source.{Text}
use Rattle.rt_input.specs.Texts.{fault_text, stopped_text, status_of as status_of_outcome}
use Rattle.rt_grade.specs.declared.grade.Grade.{Grade}
use Rattle.rt_grade.specs.declared.grade.Grade.TheVariants as grade
use Rattle.rt_grade.specs.declared.grade_fault.GradeFault.{GradeFault}
use Rattle.rt_grade.specs.declared.grade_fault.GradeFault.TheVariants as fault
use Rattle.rt_tools.specs.declared.outcome.ToolOutcome.{ToolOutcome}
use Rattle.rt_tools.specs.declared.outcome.ToolOutcome.TheVariants.{RowWitness, RowNever, RowSpent, RowRefused, BadList, TooManyPaths, ListLong, FileRead, Grades, Verdict}

-- ---- grades

abbrev pub grade_text : Grade → Text
grade_text grade.Agree = codes "agree"
grade_text (grade.Witness keep) = codes "witness " ++ decimal (size keep)
grade_text (grade.Undecided s) = codes "undecided"
grade_text (grade.Refused part fault) = codes "refused: " ++ fault_text fault
grade_text (grade.Work work) = codes "work " ++ decimal work
grade_text grade.TooLong = codes "too long"

abbrev pub grade_line : Text → Grade → Text
grade_line path grade = path ++ (codes ": " ++ (grade_text grade ++ codes "\n"))

abbrev pub grade_lines : List Text → List Grade → Text
grade_lines [] grades = []
grade_lines (path ∷ paths) [] = []
grade_lines (path ∷ paths) (grade ∷ grades) = grade_line path grade ++ grade_lines paths grades

abbrev pub grades_text : List Text → List Grade → Text
grades_text paths grades = grade_lines paths grades ++ (codes "graded: " ++ (decimal (length grades) ++ codes "\n"))

-- ---- refusals

abbrev pub usage_text : Text
usage_text = codes "usage: ratest_plus row ROW ARGS\n       ratest_plus grade SCHEMA DATADIR REFERENCE LIST [--conflicts N] [--work N]\n"

-- the text of an outcome of `ratest` that is no verdict; `most` is the work limit in force
abbrev pub verdict_text : ℕ → Outcome → Text
verdict_text most o = stopped_text usage_text most o

-- the line of what stops a call that grades, where that is no outcome of `ratest`
abbrev pub fault_line : GradeFault → Text
fault_line (fault.BadList at) = codes "ratest: list: not UTF-8 at byte " ++ (decimal at ++ codes "\n")
fault_line fault.TooManyPaths = codes "ratest: limit: more than 256 paths\n"
fault_line fault.ListLong = codes "ratest: limit: list is longer than 4194304 bytes\n"
fault_line (fault.FileRead name) = codes "ratest: cannot read " ++ (name ++ codes "\n")
fault_line (fault.Verdict o) = []

-- ---- places and statuses

-- what is found belongs to the first sink, all other texts to the second
abbrev pub place : ToolOutcome → Place
place (RowWitness keep) = at.Out
place RowNever = at.Out
place (RowSpent s) = at.Out
place (RowRefused f) = at.Err
place (BadList n) = at.Err
place TooManyPaths = at.Err
place ListLong = at.Err
place (FileRead name) = at.Err
place (Grades grades) = at.Out
place (Verdict o) = at.Err

abbrev pub status_of : ToolOutcome → ℕ
status_of (RowWitness keep) = 1
status_of RowNever = 0
status_of (RowSpent s) = 4
status_of (RowRefused f) = 3
status_of (BadList n) = 3
status_of TooManyPaths = 5
status_of ListLong = 5
status_of (FileRead name) = 6
status_of (Grades grades) = 0
status_of (Verdict o) = status_of_outcome o
