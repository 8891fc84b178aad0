-- Which files a call begins: first ones of those that its command names, in the order of the
-- reading, and none after the first refusal.
use Rattle.std.specs.Prelude.{◌≡◌, ℕ, ◌+◌, Bool, List, [], ◌∷◌, ◌++◌, Option, None, Some, Result, Ok, Err, ⊤, slice_set}
use Rattle.std.specs.Option.{ForSome}
use Rattle.rt_io.specs.Edge.{AddsPrefix}
use Rattle.rt_io.specs.Ranges.{Command}
use Rattle.rt_io.specs.declared.files.Files.{Ghosts}
use Rattle.rt_schema.specs.declared.table.Table.{Table as TableOf}
use Rattle.rt_schema.specs.Given.{Tables, places}
use Rattle.rt_input.specs.declared.part.Part.{Part}
use Rattle.rt_input.specs.declared.part.Part.TheVariants.{Schema, Table, Query1, Query2}
use Rattle.rt_input.specs.declared.outcome.Limit.{Limit}
use Rattle.rt_input.specs.declared.outcome.Limit.TheVariants as limits
use Rattle.rt_input.specs.declared.outcome.Outcome.{Outcome}
use Rattle.rt_input.specs.declared.outcome.Outcome.TheVariants as outcome
use Rattle.rt_input.specs.declared.source.Source.{Source}
use Rattle.rt_input.specs.First.{first_judged}
use Rattle.rt_input.specs.Held.{Holding}
use Rattle.rt_input.specs.Judged.{data_judged, no_rows, schema_judged, table_judged}
use Rattle.rt_input.specs.Source.{IsKnown, Text, file_of, source_of}

-- ---- the files of a command whose schema has these tables, in the order of the reading

abbrev pub names_in : Option Text → List Text
names_in None = []
names_in (Some name) = name ∷ []

-- the file of a part, if it has one
abbrev pub part_files : Source → Part → List Text
part_files source part = names_in (file_of source part)

-- those of these tables, from the table with number `at` on
abbrev pub table_files : Source → ℕ → List TableOf → List Text
table_files source at [] = []
table_files source at (table ∷ tables) = part_files source (Table at table.name) ++ table_files source (at + 1) tables

abbrev pub data_files : Source → List TableOf → List Text
data_files source tables = part_files source Schema ++ table_files source 0 tables

abbrev pub first_files : Source → List TableOf → List Text
first_files source tables = data_files source tables ++ part_files source Query1

abbrev pub input_files : Source → List TableOf → List Text
input_files source tables = first_files source tables ++ part_files source Query2

-- ---- the same up to the first refusal

-- these, where nothing before them is refused
abbrev pub then_files : {T E : Type 0} → Result T E → (T → List Text) → List Text
then_files (Ok x) files = files x
then_files (Err e) files = []

abbrev pub tables_reached : Source → Holding → ℕ → Tables → List TableOf → List Text
tables_reached source held at so_far [] = []
tables_reached source held at so_far (table ∷ tables) =
    part_files source (Table at table.name)
    ++ then_files (table_judged source held at table (places so_far)) (λ rows. tables_reached source held (at + 1) (slice_set so_far at rows) tables)

abbrev pub data_reached : Source → Holding → List Text
data_reached source held =
    part_files source Schema ++ then_files (schema_judged source held) (λ schema. tables_reached source held 0 (no_rows schema) schema)

abbrev pub first_reached : Source → Holding → List Text
first_reached source held = data_reached source held ++ then_files (data_judged source held) (λ d. part_files source Query1)

abbrev pub input_reached : Source → Holding → List Text
input_reached source held = first_reached source held ++ then_files (first_judged source held) (λ first. part_files source Query2)

-- ---- what is begun

-- Of the names begun before and after: some first ones of these files were added, for some tables
-- of the schema. If the contents are known, they are among those that are reached.
pub record AddsSome (known : Type 0) (files : List TableOf → List Text) (reached : List Text) (old new : List Text) : Type 0 where
  pub named : (tables : List TableOf) × AddsPrefix old new (files tables)
  pub told : known → AddsPrefix old new reached

-- all of them
pub record AddsAll (known : Type 0) (files : List TableOf → List Text) (reached : List Text) (old new : List Text) : Type 0 where
  pub named : (tables : List TableOf) × (new ≡ old ++ files tables)
  pub told : known → new ≡ old ++ reached

-- this name, if there is one, is the last of those begun, and was begun in the call
abbrev pub EndsWith : Option Text → List Text → List Text → Type 0
EndsWith None old new = ⊤
EndsWith (Some name) old new = (more : List Text) × (new ≡ (old ++ more) ++ name ∷ [])

abbrev pub EndsAtLimit : Source → Limit → List Text → List Text → Type 0
EndsAtLimit source (limits.TooLong part) old new = EndsWith (file_of source part) old new
EndsAtLimit source limits.Tables old new = ⊤
EndsAtLimit source (limits.Columns table) old new = ⊤
EndsAtLimit source (limits.Rules table) old new = ⊤
EndsAtLimit source limits.Rows old new = ⊤
EndsAtLimit source (limits.Work work) old new = ⊤

-- nothing is begun behind the part that a refusal, a file that is too long or an error of reading names
abbrev pub EndsAt : Source → Outcome → List Text → List Text → Type 0
EndsAt source outcome.Agree old new = ⊤
EndsAt source (outcome.Witness keep) old new = ⊤
EndsAt source outcome.Usage old new = ⊤
EndsAt source (outcome.Refused part fault) old new = EndsWith (file_of source part) old new
EndsAt source (outcome.Spent s) old new = ⊤
EndsAt source (outcome.Limit limit) old new = EndsAtLimit source limit old new
EndsAt source (outcome.ReadFault part) old new = EndsWith (file_of source part) old new
EndsAt source outcome.WriteFault old new = ⊤
EndsAt source outcome.NoMemory old new = ⊤

-- the same of a command, if there is one
abbrev pub EndsFor : Option Command → Outcome → List Text → List Text → Type 0
EndsFor command o old new = ForSome command (λ k. EndsAt (source_of k) o old new)

-- the files of a whole input, of a command or of none
abbrev pub BeginsFor : Bool → Holding → Option Command → List Text → List Text → Type 0
BeginsFor tells held None old new = new ≡ old
BeginsFor tells held (Some k) old new = AddsSome (IsKnown tells (source_of k)) (input_files (source_of k)) (input_reached (source_of k) held) old new

-- all of them
abbrev pub BeganFor : Bool → Holding → Option Command → List Text → List Text → Type 0
BeganFor tells held None old new = ⊥
BeganFor tells held (Some k) old new = AddsAll (IsKnown tells (source_of k)) (input_files (source_of k)) (input_reached (source_of k) held) old new

-- the same of files that a call found as `old` and left as `new`
abbrev pub Begins : {F : Type 0} → Ghosts F → Option Command → F → F → Type 0
Begins files command old new = BeginsFor files.tells (files.held old) command (files.begun old) (files.begun new)
