-- The text of each outcome that is no verdict, the sink that an outcome belongs to, and the
-- status of the program.
use Rattle.std.specs.Prelude.{ℕ, List, [], ◌++◌, codes, decimal}
use Rattle.rt_ddl.specs.declared.fault.SchemaFault.{SchemaFault}
use Rattle.rt_ddl.specs.declared.fault.SchemaFault.TheVariants as schema
use Rattle.rt_load.specs.declared.fault.LoadFault.{LoadFault}
use Rattle.rt_load.specs.declared.fault.LoadFault.TheVariants as load
use Rattle.rt_scope.specs.declared.fault.NameFault.{NameFault}
use Rattle.rt_scope.specs.declared.fault.NameFault.TheVariants as name
use Rattle.rt_sql.specs.declared.fault.SqlFault.{SqlFault}
use Rattle.rt_sql.specs.declared.fault.SqlFault.TheVariants as sql
use Rattle.rt_token.specs.declared.fault.LexFault.{LexFault}
use Rattle.rt_token.specs.declared.fault.LexFault.TheVariants as lex
use Rattle.rt_input.specs.declared.part.Part.{Part}
use Rattle.rt_input.specs.declared.part.Part.TheVariants.{Schema, Table, Query1, Query2, Queries}
use Rattle.rt_input.specs.declared.outcome.Fault.{Fault}
use Rattle.rt_input.specs.declared.outcome.Fault.TheVariants as fault
use Rattle.rt_input.specs.declared.outcome.Limit.{Limit}
use Rattle.rt_input.specs.declared.outcome.Limit.TheVariants.{TooLong, Tables, Columns, Rules, Rows, Work}
use Rattle.rt_input.specs.declared.outcome.Outcome.{Outcome}
use Rattle.rt_input.specs.declared.outcome.Outcome.TheVariants as outcome
use Rattle.rt_io.specs.declared.place.Place.{Place}
use Rattle.rt_io.specs.declared.place.Place.TheVariants as at

abbrev pub part_text : Part → List ℕ
part_text Schema = codes "schema"
part_text (Table at name) = codes "table " ++ name
part_text Query1 = codes "query 1"
part_text Query2 = codes "query 2"
part_text Queries = codes "queries"

abbrev pub lex_text : LexFault → List ℕ
lex_text (lex.NotUtf8 at) = codes "not UTF-8 at byte " ++ decimal at
lex_text (lex.BadByte at) = codes "unexpected byte at " ++ decimal at
lex_text (lex.OpenText at) = codes "text without end from byte " ++ decimal at
lex_text (lex.OpenComment at) = codes "comment without end from byte " ++ decimal at
lex_text (lex.BigNumber at) = codes "number past 128 bits at byte " ++ decimal at
lex_text lex.NoMemory = []

abbrev pub syntax_text : ℕ → List ℕ
syntax_text at = codes "syntax fault near byte " ++ decimal at

abbrev pub schema_text : SchemaFault → List ℕ
schema_text (schema.Lex fault) = lex_text fault
schema_text (schema.Syntax at) = syntax_text at
schema_text (schema.DuplicateName name) = codes "name twice: " ++ name
schema_text (schema.UnknownName name) = codes "unknown name: " ++ name
schema_text (schema.KeyTypes table) = codes "foreign key of " ++ (table ++ codes " does not match")
schema_text (schema.CheckTypes table) = codes "check of " ++ (table ++ codes " does not type")
schema_text (schema.TooMany excess) = []
schema_text schema.NoMemory = []

abbrev pub load_text : LoadFault → List ℕ
load_text load.BadHeader = codes "header differs from the schema"
load_text (load.FieldCount r) = codes "record " ++ (decimal r ++ codes " has another number of fields")
load_text load.TooManyRows = []
load_text (load.BadInteger r c) = codes "record " ++ (decimal r ++ (codes ", column " ++ (decimal c ++ codes ": not an integer")))
load_text (load.BadText r c) = codes "record " ++ (decimal r ++ (codes ", column " ++ (decimal c ++ codes ": not UTF-8")))
load_text load.NoMemory = []

abbrev pub sql_text : SqlFault → List ℕ
sql_text (sql.Unsupported word at) = codes "not supported: " ++ word
sql_text sql.TooDeep = codes "nested too deep"
sql_text (sql.Syntax at) = syntax_text at
sql_text sql.NoMemory = []

abbrev pub name_text : NameFault → List ℕ
name_text (name.UnknownTable n) = codes "unknown table: " ++ n
name_text (name.UnknownColumn n) = codes "unknown column: " ++ n
name_text (name.Ambiguous n) = codes "ambiguous column: " ++ n
name_text (name.DuplicateAlias n) = codes "alias twice: " ++ n
name_text name.TypeMismatch = codes "types do not match"
name_text name.Columns = codes "numbers of columns differ"
name_text name.ArithWidth = codes "arithmetic past 128 bits"
name_text name.NoMemory = []

abbrev pub fault_text : Fault → List ℕ
fault_text (fault.Lex f) = lex_text f
fault_text (fault.Schema f) = schema_text f
fault_text (fault.Load f) = load_text f
fault_text (fault.Sql f) = sql_text f
fault_text (fault.Name f) = name_text f

-- `most` is the work limit in force
abbrev pub limit_text : ℕ → Limit → List ℕ
limit_text most (TooLong part) = part_text part ++ codes " is longer than 4194304 bytes"
limit_text most Tables = codes "more than 64 tables"
limit_text most (Columns table) = codes "table " ++ (table ++ codes " has more than 64 columns")
limit_text most (Rules table) = codes "table " ++ (table ++ codes " has more than 64 rules")
limit_text most Rows = codes "more than 2000 rows"
limit_text most (Work work) = codes "work " ++ (decimal work ++ (codes " is above " ++ decimal most))

-- the line of a refusal, of a limit or of an error of reading; the other outcomes have none
abbrev pub refusal_line : ℕ → Outcome → List ℕ
refusal_line most outcome.Agree = []
refusal_line most (outcome.Witness keep) = []
refusal_line most outcome.Usage = []
refusal_line most (outcome.Refused part fault) = codes "ratest: " ++ (part_text part ++ (codes ": " ++ (fault_text fault ++ codes "\n")))
refusal_line most (outcome.Spent s) = []
refusal_line most (outcome.Limit limit) = codes "ratest: limit: " ++ (limit_text most limit ++ codes "\n")
refusal_line most (outcome.ReadFault part) = codes "ratest: cannot read " ++ (part_text part ++ codes "\n")
refusal_line most outcome.WriteFault = []
refusal_line most outcome.NoMemory = []

-- The text of an outcome that is no verdict. `usage` is the command's text for arguments that are
-- none. An error of writing and out of memory have no text.
abbrev pub stopped_text : List ℕ → ℕ → Outcome → List ℕ
stopped_text usage most outcome.Agree = []
stopped_text usage most (outcome.Witness keep) = []
stopped_text usage most outcome.Usage = usage
stopped_text usage most (outcome.Refused part fault) = refusal_line most (outcome.Refused part fault)
stopped_text usage most (outcome.Spent s) = []
stopped_text usage most (outcome.Limit limit) = refusal_line most (outcome.Limit limit)
stopped_text usage most (outcome.ReadFault part) = refusal_line most (outcome.ReadFault part)
stopped_text usage most outcome.WriteFault = []
stopped_text usage most outcome.NoMemory = []

-- verdicts belong to the first sink, all other texts to the second
abbrev pub place : Outcome → Place
place outcome.Agree = at.Out
place (outcome.Witness keep) = at.Out
place outcome.Usage = at.Err
place (outcome.Spent s) = at.Out
place (outcome.Refused part fault) = at.Err
place (outcome.Limit limit) = at.Err
place (outcome.ReadFault part) = at.Err
place outcome.WriteFault = at.Err
place outcome.NoMemory = at.Err

abbrev pub status_of : Outcome → ℕ
status_of outcome.Agree = 0
status_of (outcome.Witness keep) = 1
status_of outcome.Usage = 2
status_of (outcome.Refused part fault) = 3
status_of (outcome.Spent s) = 4
status_of (outcome.Limit limit) = 5
status_of (outcome.ReadFault part) = 6
status_of outcome.WriteFault = 6
status_of outcome.NoMemory = 7
