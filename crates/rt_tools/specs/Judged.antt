-- What is judged of the arguments of a tool over files of known contents: its first refusal, or
-- none.
use Rattle.std.specs.Prelude.{◌≡◌, ◌⊎◌, IsSomeAnd, IsTrue, List, Option, None, Some, Result, Ok, Err, ⊤}
use Rattle.rt_value.specs.declared.value.Value.{Value}
use Rattle.rt_io.specs.Edge.{Rose}
use Rattle.rt_row.specs.Rows.{row_read}
use Rattle.rt_row.specs.declared.fault.RowFault.{RowFault}
use Rattle.rt_input.specs.declared.first.First.{First}
use Rattle.rt_input.specs.declared.outcome.Outcome.{Outcome}
use Rattle.rt_input.specs.declared.outcome.Outcome.TheVariants as outcome
use Rattle.rt_input.specs.Accepted.{Accepted}
use Rattle.rt_input.specs.Reading.{Call, IsRead, IsTold}
use Rattle.rt_top.specs.Answers.{HasRoom}
use Rattle.rt_input.specs.Faults.{placeless}
use Rattle.rt_input.specs.First.{first_judged}
use Rattle.rt_io.specs.Command.{command}
use Rattle.rt_input.specs.declared.part.Part.{Part}
use Rattle.rt_input.specs.declared.source.Source.{Source}
use Rattle.rt_input.specs.Judged.{IsNamed, judged}
use Rattle.rt_input.specs.Held.{Holding}
use Rattle.rt_input.specs.Source.{IsKnown, Text, file_of, source_of}
use Rattle.rt_input.specs.Steps.{IsFirstPart, Seen}
use Rattle.rt_grade.specs.GradeAnswers.{IsNamedIn}
use Rattle.rt_grade.specs.Listing.{list_judged}
use Rattle.rt_grade.specs.GradeWords.{grade_words}
use Rattle.rt_grade.specs.declared.grade_fault.GradeFault.{GradeFault}
use Rattle.rt_grade.specs.declared.grade_words.GradeWords.{GradeWords}
use Rattle.rt_tools.specs.Answers.{with_words}
use Rattle.rt_tools.specs.Outcomes.{of_fault}
use Rattle.rt_tools.specs.Words.{Tool, grade, neither, row}
use Rattle.rt_tools.specs.declared.outcome.ToolOutcome.{ToolOutcome}
use Rattle.rt_tools.specs.declared.outcome.ToolOutcome.TheVariants.{RowWitness, RowNever, RowSpent, RowRefused, BadList, TooManyPaths, ListLong, FileRead, Grades, Verdict}

-- ---- the first refusal

abbrev pub cells_refusal : Result (List Value) RowFault → Option ToolOutcome
cells_refusal (Ok cells) = None
cells_refusal (Err fault) = Some (RowRefused fault)

-- of an input, and then of the row that a text is in the columns of its first query
abbrev pub row_refusal : Text → Result Accepted Outcome → Option ToolOutcome
row_refusal text (Ok input) = cells_refusal (row_read text input.left.kinds)
row_refusal text (Err o) = Some (Verdict o)

abbrev pub paths_refusal : Result (List Text) GradeFault → Option ToolOutcome
paths_refusal (Ok paths) = None
paths_refusal (Err fault) = Some (of_fault fault)

-- of what comes before a list, and then of the list
abbrev pub list_refusal : Result (List Text) GradeFault → Result First Outcome → Option ToolOutcome
list_refusal list (Ok first) = paths_refusal list
list_refusal list (Err o) = Some (Verdict o)

abbrev pub grade_refusal : Holding → Option GradeWords → Option ToolOutcome
grade_refusal held None = Some (Verdict outcome.Usage)
grade_refusal held (Some w) = list_refusal (list_judged (held w.list)) (first_judged (source_of w.command) held)

-- the first refusal of a tool, if there is one; a refused candidate is none of them
abbrev pub refusal_of : Tool → Holding → Option ToolOutcome
refusal_of (row text args) held = row_refusal text (judged args held)
refusal_of (grade args) held = grade_refusal held (grade_words args)
refusal_of neither held = Some (Verdict outcome.Usage)

-- ---- the outcomes that it leaves

-- the contents of the tool's source are known
abbrev pub IsToldTool : Call → Tool → Type 0
IsToldTool c (row text args) = IsTold (with_words c args)
IsToldTool c (grade args) = IsTrue c.files.tells
IsToldTool c neither = ⊤

abbrev pub IsVerdictAsJudged : Option ToolOutcome → Outcome → Type 0
IsVerdictAsJudged refusal outcome.Agree = ⊥
IsVerdictAsJudged refusal (outcome.Witness keep) = ⊥
IsVerdictAsJudged refusal outcome.Usage = refusal ≡ Some (Verdict outcome.Usage)
IsVerdictAsJudged refusal (outcome.Refused part fault) = refusal ≡ Some (Verdict (outcome.Refused part (placeless fault)))
IsVerdictAsJudged refusal (outcome.Spent s) = ⊥
IsVerdictAsJudged refusal (outcome.Limit limit) = refusal ≡ Some (Verdict (outcome.Limit limit))
IsVerdictAsJudged refusal (outcome.ReadFault part) = ⊤
IsVerdictAsJudged refusal outcome.WriteFault = ⊤
IsVerdictAsJudged refusal outcome.NoMemory = ⊤

-- An answer if nothing is refused, and else the first refusal. An error of reading or writing and
-- out of memory may come instead. Which place of its text a syntax error names is left open.
abbrev pub IsAsJudged : Option ToolOutcome → ToolOutcome → Type 0
IsAsJudged refusal (RowWitness keep) = refusal ≡ None
IsAsJudged refusal RowNever = refusal ≡ None
IsAsJudged refusal (RowSpent s) = refusal ≡ None
IsAsJudged refusal (RowRefused fault) = refusal ≡ Some (RowRefused fault)
IsAsJudged refusal (BadList at) = refusal ≡ Some (BadList at)
IsAsJudged refusal TooManyPaths = refusal ≡ Some TooManyPaths
IsAsJudged refusal ListLong = refusal ≡ Some ListLong
IsAsJudged refusal (FileRead name) = ⊤
IsAsJudged refusal (Grades grades) = refusal ≡ None
IsAsJudged refusal (Verdict o) = IsVerdictAsJudged refusal o

-- for arguments that are those of no tool: their usage, or an error of writing, or out of memory
abbrev pub IsUsageOrFault : ToolOutcome → Type 0
IsUsageOrFault (Verdict outcome.Usage) = ⊤
IsUsageOrFault (Verdict outcome.WriteFault) = ⊤
IsUsageOrFault (Verdict outcome.NoMemory) = ⊤
IsUsageOrFault _ = ⊥

-- ---- where nothing fails

-- the name is that of a part's file
pub record NamesPart (s : Seen) (source : Source) (Among : Part → Type 0) (name : Text) : Type 0 where
  pub part : Part
  pub among : Among part
  pub file : file_of source part ≡ Some name
  pub named : IsKnown s.tells source → IsNamed source s.held part

-- that of the schema, a table or the reference, of the list, or of a path of it
abbrev pub IsGradeFile : Seen → Text → GradeWords → Type 0
IsGradeFile s name w = NamesPart s (source_of w.command) IsFirstPart name ⊎ IsNamedIn s w name

-- the tool names a file of this name
abbrev pub NamesFile : Seen → Tool → Text → Type 0
NamesFile s (row text args) name = IsSomeAnd (command args) (λ k. NamesPart s (source_of k) (λ part. ⊤) name)
NamesFile s (grade args) name = IsSomeAnd (grade_words args) (IsGradeFile s name)
NamesFile s neither name = ⊥

-- no count of a file that the tool names rose
abbrev pub NoNamedRose : Call → Tool → Type 0
NoNamedRose c tool = (name : Text) → NamesFile c.files tool name → Rose (c.files.before name) (c.files.after name) → ⊥

-- there is no budget of conflicts for a row, or one that no search can spend
abbrev pub HasRoomFor : Call → Tool → Type 0
HasRoomFor c (row text args) = (input : Accepted) → IsRead (with_words c args) input → HasRoom input
HasRoomFor c (grade args) = ⊤
HasRoomFor c neither = ⊤

-- no error of reading or writing, and no spent budget
abbrev pub IsNoFault : ToolOutcome → Type 0
IsNoFault (RowSpent s) = ⊥
IsNoFault (FileRead name) = ⊥
IsNoFault (Verdict (outcome.ReadFault part)) = ⊥
IsNoFault (Verdict outcome.WriteFault) = ⊥
IsNoFault _ = ⊤
