-- When each outcome of a tool comes, and what the call writes.
use Rattle.std.specs.Prelude.{◌≡◌, ◌≢◌, ◌⊎◌, List, ⊤}
use Rattle.rt_io.specs.Command.{command}
use Rattle.rt_writing.specs.Writing.{Ways}
use Rattle.rt_input.specs.declared.outcome.Outcome.{Outcome}
use Rattle.rt_input.specs.declared.outcome.Outcome.TheVariants as outcome
use Rattle.rt_input.specs.Reading.{Call, Stop, limit_of}
use Rattle.rt_input.specs.Source.{Text}
use Rattle.rt_row.specs.RowVerdicts.{IsRowAnswer}
use Rattle.rt_row.specs.declared.outcome.RowVerdict.{RowVerdict}
use Rattle.rt_row.specs.declared.outcome.RowVerdict.TheVariants as rows
use Rattle.rt_grade.specs.declared.grade.Grade.{Grade}
use Rattle.rt_grade.specs.GradeAnswers.{AreGraded, Stops}
use Rattle.rt_grade.specs.declared.grade_fault.GradeFault.{GradeFault}
use Rattle.rt_grade.specs.declared.grade_fault.GradeFault.TheVariants as faults
use Rattle.rt_tools.specs.declared.outcome.ToolOutcome.{ToolOutcome}
use Rattle.rt_tools.specs.declared.outcome.ToolOutcome.TheVariants.{RowWitness, RowNever, RowSpent, RowRefused, BadList, TooManyPaths, ListLong, FileRead, Grades, Verdict}
use Rattle.rt_tools.specs.Outcomes.{of_fault, of_verdict}
use Rattle.rt_tools.specs.Texts.{fault_line, grades_text, place, usage_text, verdict_text}
use Rattle.rt_tools.specs.Words.{IsGradeAnd, IsRowAnd, IsUsage, Tool, grade, neither, row, tool_of}

-- the call of a command of `ratest` with these arguments, over the same files
abbrev pub with_words : Call → List Text → Call
with_words c words = record { words = words; files = c.files; readings = c.readings }

-- ---- answers and their texts

-- the tool `row` ends in the verdict, with this text
abbrev pub EndsRow : Call → RowVerdict → Text → Type 0
EndsRow c verdict said = IsRowAnd (tool_of c.words) (λ text args. IsRowAnswer (with_words c args) text (record { verdict = verdict; text = said }))

-- the tool `grade` ends in the grades
pub record EndsGrades (c : Call) (grades : List Grade) (said : Text) (args : List Text) : Type 0 where
  pub paths : List Text
  pub graded : AreGraded (with_words c args) (record { paths = paths; grades = grades })
  pub printed : said ≡ grades_text paths grades

-- the tool `grade` is stopped, with this line
abbrev pub EndsGrading : Call → GradeFault → Text → Type 0
EndsGrading c fault said = IsGradeAnd (tool_of c.words) (λ args. Stops (with_words c args) fault × (said ≡ fault_line fault))

-- a tool ends in what `ratest` too ends with where it has no verdict
abbrev pub StopsTool : Call → Outcome → Text → Tool → Type 0
StopsTool c o said (row text args) = Stop (with_words c args) o × (said ≡ verdict_text (limit_of (command args)) o)
StopsTool c o said (grade args) = Stops (with_words c args) (faults.Verdict o) × (said ≡ verdict_text (limit_of (command args)) o)
StopsTool c o said neither = ⊥

abbrev pub EndsVerdict : Call → Outcome → Text → Type 0
EndsVerdict c outcome.Agree said = ⊥
EndsVerdict c (outcome.Witness keep) said = ⊥
EndsVerdict c outcome.Usage said = IsUsage (tool_of c.words) × (said ≡ usage_text)
EndsVerdict c (outcome.Refused part fault) said = StopsTool c (outcome.Refused part fault) said (tool_of c.words)
EndsVerdict c (outcome.Spent s) said = ⊥
EndsVerdict c (outcome.Limit limit) said = StopsTool c (outcome.Limit limit) said (tool_of c.words)
EndsVerdict c (outcome.ReadFault part) said = StopsTool c (outcome.ReadFault part) said (tool_of c.words)
EndsVerdict c outcome.WriteFault said = ⊥
EndsVerdict c outcome.NoMemory said = ⊥

-- the outcome may come, and this is its text
abbrev pub Ends : Call → ToolOutcome → Text → Type 0
Ends c (RowWitness keep) said = EndsRow c (rows.Witness keep) said
Ends c RowNever said = EndsRow c rows.Never said
Ends c (RowSpent s) said = EndsRow c (rows.Spent s) said
Ends c (RowRefused fault) said = EndsRow c (rows.Refused fault) said
Ends c (BadList at) said = EndsGrading c (faults.BadList at) said
Ends c TooManyPaths said = EndsGrading c faults.TooManyPaths said
Ends c ListLong said = EndsGrading c faults.ListLong said
Ends c (FileRead name) said = EndsGrading c (faults.FileRead name) said
Ends c (Grades grades) said = IsGradeAnd (tool_of c.words) (EndsGrades c grades said)
Ends c (Verdict o) said = EndsVerdict c o said

-- ---- what is written

-- the sink of each outcome's text, and the two outcomes of a text that isn't written whole
abbrev pub in_tools : Ways ToolOutcome
in_tools = record { place = place; write_fault = Verdict outcome.WriteFault; no_memory = Verdict outcome.NoMemory }

-- ---- steps

-- an outcome of `ratest` other than out of memory, and its text
abbrev pub SaysVerdict : List Text → Outcome → ToolOutcome → Text → Type 0
SaysVerdict words o result said = (result ≡ Verdict o) × (o ≢ outcome.NoMemory) × (said ≡ verdict_text (limit_of (command words)) o)

-- what stops a call that grades alone
abbrev pub IsOwn : GradeFault → Type 0
IsOwn (faults.BadList at) = ⊤
IsOwn faults.TooManyPaths = ⊤
IsOwn faults.ListLong = ⊤
IsOwn (faults.FileRead name) = ⊤
IsOwn (faults.Verdict o) = ⊥

-- what is said of a row
abbrev pub SaysRow : Call → Text → ToolOutcome → Text → Type 0
SaysRow c text result said =
    ((verdict : RowVerdict) × (result ≡ of_verdict verdict) × IsRowAnswer c text (record { verdict = verdict; text = said }))
    ⊎ ((o : Outcome) × Stop c o × SaysVerdict c.words o result said)

-- what is said of a list of candidates
abbrev pub SaysGrade : Call → ToolOutcome → Text → Type 0
SaysGrade c result said =
    ((grades : List Grade) × (result ≡ Grades grades) × EndsGrades c grades said c.words)
    ⊎ (((fault : GradeFault) × (result ≡ of_fault fault) × IsOwn fault × Stops c fault × (said ≡ fault_line fault))
    ⊎ ((o : Outcome) × Stops c (faults.Verdict o) × SaysVerdict c.words o result said))
