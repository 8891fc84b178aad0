-- Where the texts of a command come from: the files that it names, or a generated input.
use Rattle.std.specs.Prelude.{ℕ, Bool, IsTrue, ⊤, List, [], ◌∷◌, ◌++◌, Option, None, Some, codes, slice_index_or}
use Rattle.rt_load.specs.Made.{made}
use Rattle.rt_load.specs.declared.input.Made.{Made as Texts}
use Rattle.rt_io.specs.Ranges.{Command}
use Rattle.rt_input.specs.declared.part.QueryPart.{QueryPart}
use Rattle.rt_input.specs.declared.part.QueryPart.TheVariants.{First, Second}
use Rattle.rt_input.specs.declared.part.Part.{Part}
use Rattle.rt_input.specs.declared.part.Part.TheVariants.{Schema, Table, Query1, Query2, Queries}
use Rattle.rt_input.specs.declared.source.Paths.{Paths}
use Rattle.rt_input.specs.declared.source.Source.{Source}
use Rattle.rt_input.specs.declared.source.Source.TheVariants.{Files, Made}

abbrev pub Text : Type 0
Text = List ℕ

-- the four paths of a command over files
abbrev pub paths_in : List Text → Paths
paths_in (s ∷ d ∷ p ∷ q ∷ []) = record { schema = s; dir = d; query1 = Some p; query2 = Some q }
paths_in _ = record { schema = []; dir = []; query1 = None; query2 = None }

-- the paths of a schema and of the folder of its tables, with no query
abbrev pub table_paths : Text → Text → Paths
table_paths schema dir = record { schema = schema; dir = dir; query1 = None; query2 = None }

abbrev pub tables_in : Text → Text → Source
tables_in schema dir = Files (table_paths schema dir)

abbrev pub source_from : Option ℕ → List Text → Source
source_from None paths = Files (paths_in paths)
source_from (Some n) paths = Made (made n)

abbrev pub source_of : Command → Source
source_of c = source_from c.made c.paths

abbrev pub table_file : Paths → Text → Text
table_file paths name = paths.dir ++ (codes "/" ++ (name ++ codes ".csv"))

-- the name of the file of a part; the comparison of the two queries has none
abbrev pub file_name : Paths → Part → Option Text
file_name paths Schema = Some paths.schema
file_name paths (Table at name) = Some (table_file paths name)
file_name paths Query1 = paths.query1
file_name paths Query2 = paths.query2
file_name paths Queries = None

-- a generated input has no files
abbrev pub file_of : Source → Part → Option Text
file_of (Files paths) part = file_name paths part
file_of (Made texts) part = None

-- the contents of a source are known: they are generated, or its kind of files has known contents
abbrev pub IsKnown : Bool → Source → Type 0
IsKnown tells (Files paths) = IsTrue tells
IsKnown tells (Made texts) = ⊤

-- it is generated
abbrev pub IsMade : Source → Type 0
IsMade (Files paths) = ⊥
IsMade (Made texts) = ⊤

-- the generated text of a part
abbrev pub made_part : Texts → Part → Text
made_part texts Schema = texts.schema
made_part texts (Table at name) = slice_index_or texts.files at []
made_part texts Query1 = texts.query1
made_part texts Query2 = texts.query2
made_part texts Queries = []

abbrev pub query_part : QueryPart → Part
query_part First = Query1
query_part Second = Query2
