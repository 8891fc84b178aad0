-- The input of a command, or the first refusal in the order of its parts. These are the
-- arguments, the schema, the tables in schema order, query 1, query 2, their columns together,
-- and the work. Of each file, its length comes first and then its contents.
use Rattle.std.specs.Prelude.{◌≡◌, ℕ, ◌+◌, ◌==◌, nat_le, List, [], ◌∷◌, length, take, replicate, Option, None, Some, Result, Ok, Err, IsOk, IsOkAnd, slice_get, slice_set, if◌then◌else◌}
use Rattle.std.specs.Option.{option_map}
use lib.Pointwise.{pointwise}
use Rattle.rt_schema.specs.declared.table.Table.{Table as TableOf}
use Rattle.rt_schema.specs.Capped.{capped}
use Rattle.rt_schema.specs.LawWork.{law_work}
use Rattle.rt_schema.specs.Schema.{kind_eq, schema_kinds}
use Rattle.rt_schema.specs.Given.{Instance, Rows, Tables, places}
use Rattle.rt_algebra.specs.Work.{work}
use Rattle.rt_algebra.specs.declared.typed.Typed.{Typed}
use Rattle.rt_ddl.specs.Whole.{schema_read}
use Rattle.rt_load.specs.Loaded.{loaded}
use Rattle.rt_resolve.specs.Chains.{lowered}
use Rattle.rt_scope.specs.declared.fault.NameFault.{NameFault}
use Rattle.rt_scope.specs.declared.fault.NameFault.TheVariants as name
use Rattle.rt_sql.specs.Whole.{sql_read}
use Rattle.rt_token.specs.Lexed.{lexed}
use Rattle.rt_token.specs.declared.token.Token.{Token}
use Rattle.rt_tree.specs.declared.tree.Sql.{Sql}
use Rattle.rt_io.specs.Command.{command}
use Rattle.rt_io.specs.Ranges.{Command}
use Rattle.rt_input.specs.declared.part.Part.{Part}
use Rattle.rt_input.specs.declared.part.Part.TheVariants.{Schema, Table, Query1, Query2, Queries}
use Rattle.rt_input.specs.declared.outcome.Fault.TheVariants.{Name}
use Rattle.rt_input.specs.declared.outcome.Limit.TheVariants as limit
use Rattle.rt_input.specs.declared.outcome.Outcome.{Outcome}
use Rattle.rt_input.specs.declared.outcome.Outcome.TheVariants as outcome
use Rattle.rt_input.specs.declared.source.Source.{Source}
use Rattle.rt_input.specs.Accepted.{Accepted}
use Rattle.rt_input.specs.Faults.{lex_outcome, load_outcome, name_outcome, or_outcome, schema_outcome, sql_outcome}
use Rattle.rt_input.specs.Held.{Holding, text_of}
use Rattle.rt_input.specs.Source.{Text, source_of}

-- goes on with the value
abbrev pub then_read : {T U E : Type 0} → Result T E → (T → Result U E) → Result U E
then_read (Ok x) f = f x
then_read (Err e) f = Err e

-- ---- the schema and the tables

-- the schema of a text
abbrev pub schema_of : Text → Result (List TableOf) Outcome
schema_of text = or_outcome schema_outcome (schema_read text)

abbrev pub schema_judged : Source → Holding → Result (List TableOf) Outcome
schema_judged source held = then_read (text_of source held Schema) schema_of

-- the rows of the table with this number, where `before` rows are given already
abbrev pub table_judged : Source → Holding → ℕ → TableOf → ℕ → Result Rows Outcome
table_judged source held at table before =
    then_read (text_of source held (Table at table.name)) (λ text. or_outcome (load_outcome (Table at table.name)) (loaded table.columns text before))

-- the rows of these tables, from the table with number `at` on, put into those so far
abbrev pub tables_judged : Source → Holding → ℕ → Tables → List TableOf → Result Tables Outcome
tables_judged source held at so_far [] = Ok so_far
tables_judged source held at so_far (table ∷ tables) =
    then_read (table_judged source held at table (places so_far)) (λ rows. tables_judged source held (at + 1) (slice_set so_far at rows) tables)

abbrev pub no_rows : List TableOf → Tables
no_rows schema = replicate (length schema) []

-- a schema and the rows given for it
pub record Data : Type 0 where
  pub schema : List TableOf
  pub given : Instance

abbrev pub data_of : List TableOf → Tables → Data
data_of schema tables = record { schema = schema; given = record { kinds = schema_kinds schema; tables = tables } }

abbrev pub data_judged : Source → Holding → Result Data Outcome
data_judged source held =
    then_read (schema_judged source held) (λ schema. then_read (tables_judged source held 0 (no_rows schema) schema) (λ tables. Ok (data_of schema tables)))

-- ---- the queries

-- the query of a tree
abbrev pub query_of_tree : Part → List TableOf → Sql → Result Typed Outcome
query_of_tree part schema tree = or_outcome (name_outcome part) (lowered tree schema)

-- the query of tokens
abbrev pub query_of_tokens : Part → List TableOf → List Token → Result Typed Outcome
query_of_tokens part schema tokens = then_read (or_outcome (sql_outcome part) (sql_read tokens)) (query_of_tree part schema)

-- the query of a text
abbrev pub query_of : Part → List TableOf → Text → Result Typed Outcome
query_of part schema text = then_read (or_outcome (lex_outcome part) (lexed text)) (query_of_tokens part schema)

abbrev pub query_judged : Source → Holding → Part → List TableOf → Result Typed Outcome
query_judged source held part schema = then_read (text_of source held part) (query_of part schema)

abbrev pub other_columns : NameFault → Result Typed Outcome
other_columns fault = Err (outcome.Refused Queries (Name fault))

-- the second query, where it has as many columns as the first, of the same kinds
abbrev pub like_left : Typed → Typed → Result Typed Outcome
like_left left right =
    if length left.kinds == length right.kinds then (if pointwise kind_eq left.kinds right.kinds then Ok right else other_columns name.TypeMismatch) else other_columns name.Columns

abbrev pub right_judged : Source → Holding → List TableOf → Typed → Result Typed Outcome
right_judged source held schema left = then_read (query_judged source held Query2 schema) (like_left left)

-- ---- the work

-- of the two queries and of the rules of the schema
abbrev pub work_between : List TableOf → Instance → Typed → Typed → ℕ
work_between schema given left right = capped (capped (work left.query given + work right.query given) + law_work schema given.tables)

abbrev pub total_work : Accepted → ℕ
total_work input = work_between input.schema input.given input.left input.right

abbrev pub within_limit : Accepted → Result Accepted Outcome
within_limit input = if nat_le (total_work input) input.work_limit then Ok input else Err (outcome.Limit (limit.Work (total_work input)))

-- ---- all of it

abbrev pub accepted : Command → Data → Typed → Typed → Accepted
accepted c d left right = record { schema = d.schema; given = d.given; left = left; right = right; conflicts = c.conflicts; work_limit = c.work_limit; made = c.made }

-- the whole input, or the first refusal
abbrev pub input_judged : Holding → Command → Result Accepted Outcome
input_judged held c =
    then_read (data_judged (source_of c) held) (λ d.
    then_read (query_judged (source_of c) held Query1 d.schema) (λ left.
    then_read (right_judged (source_of c) held d.schema left) (λ right.
    within_limit (accepted c d left right))))

abbrev pub command_judged : Holding → Option Command → Result Accepted Outcome
command_judged held None = Err outcome.Usage
command_judged held (Some c) = input_judged held c

abbrev pub judged : List Text → Holding → Result Accepted Outcome
judged words held = command_judged held (command words)

-- ---- how far the reading comes

-- the schema has a table of this name with this number
abbrev pub HasTable : ℕ → Text → List TableOf → Type 0
HasTable at name schema = option_map (λ table. table.name) (slice_get schema at) ≡ Some name

-- the reading of the tables comes to this one with no refusal before it
abbrev pub TableReached : Source → Holding → ℕ → Text → List TableOf → Type 0
TableReached source held at name schema = HasTable at name schema × IsOk (tables_judged source held 0 (no_rows schema) (take at schema))

abbrev pub IsTableReached : Source → Holding → List TableOf → Part → Type 0
IsTableReached source held schema Schema = ⊥
IsTableReached source held schema (Table at name) = TableReached source held at name schema
IsTableReached source held schema Query1 = ⊥
IsTableReached source held schema Query2 = ⊥
IsTableReached source held schema Queries = ⊥

-- the reading comes to this part with no refusal before it
abbrev pub Reaches : Source → Holding → Part → Type 0
Reaches source held Schema = Unit {0}
Reaches source held (Table at name) = IsOkAnd (schema_judged source held) (TableReached source held at name)
Reaches source held Query1 = IsOk (data_judged source held)
Reaches source held Query2 = IsOkAnd (data_judged source held) (λ d. IsOk (query_judged source held Query1 d.schema))
Reaches source held Queries = ⊥

-- the same before the second query
abbrev pub ReachesFirst : Source → Holding → Part → Type 0
ReachesFirst source held Schema = Unit {0}
ReachesFirst source held (Table at name) = Reaches source held (Table at name)
ReachesFirst source held Query1 = Reaches source held Query1
ReachesFirst source held Query2 = ⊥
ReachesFirst source held Queries = ⊥

-- the parts that have a text of their own
abbrev pub IsNamed : Source → Holding → Part → Type 0
IsNamed source held Schema = Unit {0}
IsNamed source held (Table at name) = IsOkAnd (schema_judged source held) (HasTable at name)
IsNamed source held Query1 = Unit {0}
IsNamed source held Query2 = Unit {0}
IsNamed source held Queries = ⊥
