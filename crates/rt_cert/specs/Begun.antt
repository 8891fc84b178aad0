-- Which files a command begins: first ones of those that it names, in the order of the reading,
-- and none after the first refusal.
use Rattle.std.specs.Prelude.{◌≡◌, Bool, List, [], ◌∷◌, ◌++◌, Option, None, Some}
use Rattle.rt_io.specs.Command.{command}
use Rattle.rt_io.specs.Ranges.{Command}
use Rattle.rt_io.specs.declared.files.Files.{Ghosts}
use Rattle.rt_schema.specs.declared.table.Table.{Table}
use Rattle.rt_input.specs.Begun.{AddsSome, BeginsFor, input_files, input_reached, then_files}
use Rattle.rt_input.specs.Held.{Holding}
use Rattle.rt_input.specs.Judged.{input_judged}
use Rattle.rt_input.specs.Source.{IsKnown, Text, source_of}
use Rattle.rt_cert.specs.Words.{Asked, check, neither, prove}

-- the files of an input whose schema has these tables, and then that of a certificate
abbrev pub check_files : Command → Text → List Table → List Text
check_files k name tables = input_files (source_of k) tables ++ name ∷ []

-- the same up to the first refusal
abbrev pub check_reached : Command → Text → Holding → List Text
check_reached k name held = input_reached (source_of k) held ++ then_files (input_judged held k) (λ input. name ∷ [])

-- the names begun before and after grew by some first ones of them
abbrev pub ChecksFor : Bool → Holding → Text → Option Command → List Text → List Text → Type 0
ChecksFor tells held name None old new = new ≡ old
ChecksFor tells held name (Some k) old new = AddsSome (IsKnown tells (source_of k)) (check_files k name) (check_reached k name held) old new

-- the same of what is asked for
abbrev pub AskedBegins : Bool → Holding → Asked → List Text → List Text → Type 0
AskedBegins tells held (prove args) old new = BeginsFor tells held (command args) old new
AskedBegins tells held (check name args) old new = ChecksFor tells held name (command args) old new
AskedBegins tells held neither old new = new ≡ old

-- the same of files that a call found as `old` and left as `new`
abbrev pub Begins : {F : Type 0} → Ghosts F → Asked → F → F → Type 0
Begins files asked old new = AskedBegins files.tells (files.held old) asked (files.begun old) (files.begun new)
