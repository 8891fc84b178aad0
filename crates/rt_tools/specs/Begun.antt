-- Which files a tool begins: first ones of those that it names, in the order of the reading, and
-- none after the first refusal. A refused candidate is none of these.
use Rattle.std.specs.Prelude.{◌≡◌, Bool, List, ⊤}
use Rattle.rt_io.specs.Command.{command}
use Rattle.rt_io.specs.declared.files.Files.{Ghosts}
use Rattle.rt_input.specs.Begun.{BeganFor, BeginsFor}
use Rattle.rt_input.specs.Held.{Holding}
use Rattle.rt_input.specs.Source.{Text}
use Rattle.rt_grade.specs.Begun.{GradesFor}
use Rattle.rt_grade.specs.GradeWords.{grade_words}
use Rattle.rt_tools.specs.declared.outcome.ToolOutcome.{ToolOutcome}
use Rattle.rt_tools.specs.declared.outcome.ToolOutcome.TheVariants.{RowNever, RowRefused, RowSpent, RowWitness}
use Rattle.rt_tools.specs.Words.{Tool, grade, neither, row}

-- the names begun before and after grew by first ones of the files of a tool
abbrev pub ToolBegins : Bool → Holding → Tool → List Text → List Text → Type 0
ToolBegins tells held (row text args) old new = BeginsFor tells held (command args) old new
ToolBegins tells held (grade args) old new = GradesFor tells held (grade_words args) old new
ToolBegins tells held neither old new = new ≡ old

-- the same of files that a call found as `old` and left as `new`
abbrev pub Begins : {F : Type 0} → Ghosts F → Tool → F → F → Type 0
Begins files tool old new = ToolBegins files.tells (files.held old) tool (files.begun old) (files.begun new)

-- all files of the tool `row` were begun
abbrev pub RowBegan : Bool → Holding → Tool → List Text → List Text → Type 0
RowBegan tells held (row text args) old new = BeganFor tells held (command args) old new
RowBegan tells held (grade args) old new = ⊥
RowBegan tells held neither old new = ⊥

-- of an answer on a row
abbrev pub OnRow : ToolOutcome → Type 0 → Type 0
OnRow (RowWitness keep) P = P
OnRow RowNever P = P
OnRow (RowSpent s) P = P
OnRow (RowRefused fault) P = P
OnRow _ P = ⊤

-- an answer on a row comes only after all files of the tool were begun, of files that a call found
-- as `old` and left as `new`
abbrev pub Opens : {F : Type 0} → Ghosts F → Tool → ToolOutcome → F → F → Type 0
Opens files tool o old new = OnRow o (RowBegan files.tells (files.held old) tool (files.begun old) (files.begun new))
