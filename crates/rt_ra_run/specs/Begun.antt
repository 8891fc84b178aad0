-- Which files a command begins: first ones of those that it names, in the order of the reading, and
-- none after the first refusal.
use Rattle.std.specs.Prelude.{◌≡◌, Bool, IsTrue, List, [], ◌∷◌, ◌++◌, Option, None, Some}
use Rattle.rt_io.specs.declared.files.Files.{Ghosts}
use Rattle.rt_schema.specs.declared.table.Table.{Table}
use Rattle.rt_input.specs.declared.part.Part.TheVariants.{Query1}
use Rattle.rt_input.specs.declared.source.Source.{Source}
use Rattle.rt_input.specs.Begun.{AddsSome, data_files, data_reached, then_files}
use Rattle.rt_input.specs.Held.{Holding}
use Rattle.rt_input.specs.Judged.{Data}
use Rattle.rt_input.specs.Source.{Text, tables_in}
use Rattle.rt_ra_run.specs.declared.command.RaCommand.{RaCommand}
use Rattle.rt_ra_run.specs.Judged.{data_judged, query_judged}

abbrev pub tables_of : RaCommand → Source
tables_of k = tables_in k.schema k.dir

abbrev pub query_files : RaCommand → List Text
query_files k = k.query1 ∷ k.query2 ∷ []

-- the files of a command whose schema has these tables, in the order of the reading
abbrev pub asked_files : RaCommand → List Table → List Text
asked_files k tables = data_files (tables_of k) tables ++ query_files k

-- the same up to the first refusal
abbrev pub queries_reached : RaCommand → Holding → Data → List Text
queries_reached k held d = k.query1 ∷ then_files (query_judged k held Query1 d.schema) (λ left. k.query2 ∷ [])

abbrev pub asked_reached : RaCommand → Holding → List Text
asked_reached k held = data_reached (tables_of k) held ++ then_files (data_judged k held) (queries_reached k held)

-- the names begun before and after grew by some first ones of them
abbrev pub BeginsFor : Bool → Holding → Option RaCommand → List Text → List Text → Type 0
BeginsFor tells held None old new = new ≡ old
BeginsFor tells held (Some k) old new = AddsSome (IsTrue tells) (asked_files k) (asked_reached k held) old new

-- the same of files that a call found as `old` and left as `new`
abbrev pub Begins : {F : Type 0} → Ghosts F → Option RaCommand → F → F → Type 0
Begins files command old new = BeginsFor files.tells (files.held old) command (files.begun old) (files.begun new)
