-- The list of paths in a file.
use Rattle.std.specs.Prelude.{◌≡◌, List, Some, Result, Ok, Err, IsTrue}
use Rattle.rt_io.specs.Edge.{Rose}
use Rattle.rt_grade.specs.Listed.{paths_read}
use Rattle.rt_grade.specs.declared.paths_fault.PathsFault.{PathsFault}
use Rattle.rt_grade.specs.declared.paths_fault.PathsFault.TheVariants as paths
use Rattle.rt_input.specs.declared.outcome.Outcome.{Outcome}
use Rattle.rt_input.specs.declared.outcome.Outcome.TheVariants as outcome
use Rattle.rt_input.specs.declared.part.Part.TheVariants.{Query2}
use Rattle.rt_input.specs.Held.{text_read}
use Rattle.rt_input.specs.Source.{Text}
use Rattle.rt_input.specs.Steps.{IsLong, Seen}
use Rattle.rt_grade.specs.declared.grade_fault.GradeFault.{GradeFault}
use Rattle.rt_grade.specs.declared.grade_fault.GradeFault.TheVariants.{BadList, TooManyPaths, ListLong, FileRead, Verdict}

abbrev pub fault_of : PathsFault → GradeFault
fault_of (paths.NotUtf8 at) = BadList at
fault_of paths.TooMany = TooManyPaths
fault_of paths.NoMemory = Verdict outcome.NoMemory

abbrev pub or_fault : Result (List Text) PathsFault → Result (List Text) GradeFault
or_fault (Ok paths) = Ok paths
or_fault (Err fault) = Err (fault_of fault)

-- the paths of a text
abbrev pub paths_judged : Text → Result (List Text) GradeFault
paths_judged text = or_fault (paths_read text)

abbrev pub unless_long : Result Text Outcome → Result (List Text) GradeFault
unless_long (Ok text) = paths_judged text
unless_long (Err o) = Err ListLong

-- the paths of a file, unless it is too long; a byte order mark at its start is none of its text
abbrev pub list_judged : Text → Result (List Text) GradeFault
list_judged bytes = unless_long (text_read Query2 bytes)

-- ---- what stops the reading of a list

-- of its text
abbrev pub PathsStop : Result (List Text) GradeFault → GradeFault → Type 0
PathsStop judged (BadList at) = judged ≡ Err (BadList at)
PathsStop judged TooManyPaths = judged ≡ Err TooManyPaths
PathsStop judged ListLong = ⊥
PathsStop judged (FileRead name) = ⊥
PathsStop judged (Verdict o) = o ≡ outcome.NoMemory

-- of its file: what is judged, or one byte more than it may have was taken, or its count rose, or
-- it is out of memory
abbrev pub ListStops : Seen → Text → GradeFault → Type 0
ListStops s list (BadList at) = IsTrue s.tells → list_judged (s.held list) ≡ Err (BadList at)
ListStops s list TooManyPaths = IsTrue s.tells → list_judged (s.held list) ≡ Err TooManyPaths
ListStops s list ListLong = IsLong s (Some list) × (IsTrue s.tells → list_judged (s.held list) ≡ Err ListLong)
ListStops s list (FileRead name) = (name ≡ list) × Rose (s.before list) (s.after list)
ListStops s list (Verdict o) = o ≡ outcome.NoMemory
