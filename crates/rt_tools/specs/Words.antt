-- The arguments of a tool: `row ROW ARGS`, or `grade` and the arguments of a call that grades.
use Rattle.std.specs.Prelude.{◌≡◌, List, [], ◌∷◌, None, codes, if◌then◌else◌}
use Rattle.std.specs.Str.{bytes_eq}
use Rattle.rt_io.specs.Command.{command}
use Rattle.rt_input.specs.Source.{Text}
use Rattle.rt_grade.specs.GradeWords.{grade_words}

-- the tool that the arguments name, and what is after its name
pub data Tool : Type 0 where
  -- the text of a row, and the arguments of a command of `ratest`
  row : Text → List Text → Tool
  grade : List Text → Tool
  neither : Tool

abbrev pub row_tool : List Text → Tool
row_tool [] = neither
row_tool (text ∷ args) = row text args

abbrev pub tool_of : List Text → Tool
tool_of [] = neither
tool_of (first ∷ rest) = if bytes_eq first (codes "row") then row_tool rest else if bytes_eq first (codes "grade") then grade rest else neither

abbrev pub IsRowAnd : Tool → (Text → List Text → Type 0) → Type 0
IsRowAnd (row text args) P = P text args
IsRowAnd (grade args) P = ⊥
IsRowAnd neither P = ⊥

abbrev pub IsGradeAnd : Tool → (List Text → Type 0) → Type 0
IsGradeAnd (row text args) P = ⊥
IsGradeAnd (grade args) P = P args
IsGradeAnd neither P = ⊥

-- the arguments after the name are none of the tool
abbrev pub IsUsage : Tool → Type 0
IsUsage (row text args) = command args ≡ None
IsUsage (grade args) = grade_words args ≡ None
IsUsage neither = Unit {0}
