-- The errors of each text as outcomes. Out of memory and limits are outcomes of their own, and
-- each other error is a refusal of its part.
use Rattle.std.specs.Prelude.{Bool, true, false, Result, Ok, Err}
use Rattle.rt_token.specs.declared.fault.LexFault.{LexFault}
use Rattle.rt_token.specs.declared.fault.LexFault.TheVariants as lex
use Rattle.rt_ddl.specs.declared.fault.Excess.{Excess}
use Rattle.rt_ddl.specs.declared.fault.Excess.TheVariants as excess
use Rattle.rt_ddl.specs.declared.fault.SchemaFault.{SchemaFault}
use Rattle.rt_ddl.specs.declared.fault.SchemaFault.TheVariants as schema
use Rattle.rt_load.specs.declared.fault.LoadFault.{LoadFault}
use Rattle.rt_load.specs.declared.fault.LoadFault.TheVariants as load
use Rattle.rt_scope.specs.declared.fault.NameFault.{NameFault}
use Rattle.rt_scope.specs.declared.fault.NameFault.TheVariants as name
use Rattle.rt_sql.specs.declared.fault.SqlFault.{SqlFault}
use Rattle.rt_sql.specs.declared.fault.SqlFault.TheVariants as sql
use Rattle.rt_input.specs.declared.part.Part.{Part}
use Rattle.rt_input.specs.declared.part.Part.TheVariants as part
use Rattle.rt_input.specs.declared.outcome.Fault.{Fault}
use Rattle.rt_input.specs.declared.outcome.Fault.TheVariants.{Lex, Schema, Load, Sql, Name}
use Rattle.rt_input.specs.declared.outcome.Limit.{Limit}
use Rattle.rt_input.specs.declared.outcome.Limit.TheVariants as limit
use Rattle.rt_input.specs.declared.outcome.Outcome.{Outcome}
use Rattle.rt_input.specs.declared.outcome.Outcome.TheVariants as outcome

-- the value, or the outcome of the error
abbrev pub or_outcome : {T E : Type 0} → (E → Outcome) → Result T E → Result T Outcome
or_outcome f (Ok x) = Ok x
or_outcome f (Err e) = Err (f e)

abbrev pub lex_outcome : Part → LexFault → Outcome
lex_outcome p (lex.NotUtf8 at) = outcome.Refused p (Lex (lex.NotUtf8 at))
lex_outcome p (lex.BadByte at) = outcome.Refused p (Lex (lex.BadByte at))
lex_outcome p (lex.OpenText at) = outcome.Refused p (Lex (lex.OpenText at))
lex_outcome p (lex.OpenComment at) = outcome.Refused p (Lex (lex.OpenComment at))
lex_outcome p (lex.BigNumber at) = outcome.Refused p (Lex (lex.BigNumber at))
lex_outcome p lex.NoMemory = outcome.NoMemory

abbrev pub excess_limit : Excess → Limit
excess_limit excess.Tables = limit.Tables
excess_limit (excess.Columns table) = limit.Columns table
excess_limit (excess.Rules table) = limit.Rules table

abbrev pub schema_outcome : SchemaFault → Outcome
schema_outcome (schema.Lex fault) = lex_outcome part.Schema fault
schema_outcome (schema.Syntax at) = outcome.Refused part.Schema (Schema (schema.Syntax at))
schema_outcome (schema.DuplicateName name) = outcome.Refused part.Schema (Schema (schema.DuplicateName name))
schema_outcome (schema.UnknownName name) = outcome.Refused part.Schema (Schema (schema.UnknownName name))
schema_outcome (schema.KeyTypes table) = outcome.Refused part.Schema (Schema (schema.KeyTypes table))
schema_outcome (schema.CheckTypes table) = outcome.Refused part.Schema (Schema (schema.CheckTypes table))
schema_outcome (schema.TooMany excess) = outcome.Limit (excess_limit excess)
schema_outcome schema.NoMemory = outcome.NoMemory

abbrev pub load_outcome : Part → LoadFault → Outcome
load_outcome p load.NoMemory = outcome.NoMemory
load_outcome p load.TooManyRows = outcome.Limit limit.Rows
load_outcome p load.BadHeader = outcome.Refused p (Load load.BadHeader)
load_outcome p (load.FieldCount n) = outcome.Refused p (Load (load.FieldCount n))
load_outcome p (load.BadInteger n c) = outcome.Refused p (Load (load.BadInteger n c))
load_outcome p (load.BadText n c) = outcome.Refused p (Load (load.BadText n c))

abbrev pub sql_outcome : Part → SqlFault → Outcome
sql_outcome p (sql.Unsupported word at) = outcome.Refused p (Sql (sql.Unsupported word at))
sql_outcome p sql.TooDeep = outcome.Refused p (Sql sql.TooDeep)
sql_outcome p (sql.Syntax at) = outcome.Refused p (Sql (sql.Syntax at))
sql_outcome p sql.NoMemory = outcome.NoMemory

abbrev pub name_outcome : Part → NameFault → Outcome
name_outcome p (name.UnknownTable n) = outcome.Refused p (Name (name.UnknownTable n))
name_outcome p (name.UnknownColumn n) = outcome.Refused p (Name (name.UnknownColumn n))
name_outcome p (name.Ambiguous n) = outcome.Refused p (Name (name.Ambiguous n))
name_outcome p (name.DuplicateAlias n) = outcome.Refused p (Name (name.DuplicateAlias n))
name_outcome p name.TypeMismatch = outcome.Refused p (Name name.TypeMismatch)
name_outcome p name.Columns = outcome.Refused p (Name name.Columns)
name_outcome p name.ArithWidth = outcome.Refused p (Name name.ArithWidth)
name_outcome p name.NoMemory = outcome.NoMemory

-- ---- what a refusal may hold

abbrev pub is_lex_refusal : LexFault → Bool
is_lex_refusal (lex.NotUtf8 at) = true
is_lex_refusal (lex.BadByte at) = true
is_lex_refusal (lex.OpenText at) = true
is_lex_refusal (lex.OpenComment at) = true
is_lex_refusal (lex.BigNumber at) = true
is_lex_refusal lex.NoMemory = false

abbrev pub is_schema_refusal : SchemaFault → Bool
is_schema_refusal (schema.Lex fault) = false
is_schema_refusal (schema.Syntax at) = true
is_schema_refusal (schema.DuplicateName name) = true
is_schema_refusal (schema.UnknownName name) = true
is_schema_refusal (schema.KeyTypes table) = true
is_schema_refusal (schema.CheckTypes table) = true
is_schema_refusal (schema.TooMany excess) = false
is_schema_refusal schema.NoMemory = false

abbrev pub is_load_refusal : LoadFault → Bool
is_load_refusal load.BadHeader = true
is_load_refusal (load.FieldCount n) = true
is_load_refusal load.TooManyRows = false
is_load_refusal (load.BadInteger n c) = true
is_load_refusal (load.BadText n c) = true
is_load_refusal load.NoMemory = false

abbrev pub is_sql_refusal : SqlFault → Bool
is_sql_refusal (sql.Unsupported word at) = true
is_sql_refusal sql.TooDeep = true
is_sql_refusal (sql.Syntax at) = true
is_sql_refusal sql.NoMemory = false

abbrev pub is_name_refusal : NameFault → Bool
is_name_refusal (name.UnknownTable n) = true
is_name_refusal (name.UnknownColumn n) = true
is_name_refusal (name.Ambiguous n) = true
is_name_refusal (name.DuplicateAlias n) = true
is_name_refusal name.TypeMismatch = true
is_name_refusal name.Columns = true
is_name_refusal name.ArithWidth = true
is_name_refusal name.NoMemory = false

-- neither out of memory nor a limit
abbrev pub is_refusal : Fault → Bool
is_refusal (Lex fault) = is_lex_refusal fault
is_refusal (Schema fault) = is_schema_refusal fault
is_refusal (Load fault) = is_load_refusal fault
is_refusal (Sql fault) = is_sql_refusal fault
is_refusal (Name fault) = is_name_refusal fault

-- ---- the open place of a syntax error

abbrev pub placeless_schema : SchemaFault → SchemaFault
placeless_schema (schema.Lex fault) = schema.Lex fault
placeless_schema (schema.Syntax at) = schema.Syntax 0
placeless_schema (schema.DuplicateName name) = schema.DuplicateName name
placeless_schema (schema.UnknownName name) = schema.UnknownName name
placeless_schema (schema.KeyTypes table) = schema.KeyTypes table
placeless_schema (schema.CheckTypes table) = schema.CheckTypes table
placeless_schema (schema.TooMany excess) = schema.TooMany excess
placeless_schema schema.NoMemory = schema.NoMemory

abbrev pub placeless_sql : SqlFault → SqlFault
placeless_sql (sql.Unsupported word at) = sql.Unsupported word at
placeless_sql sql.TooDeep = sql.TooDeep
placeless_sql (sql.Syntax at) = sql.Syntax 0
placeless_sql sql.NoMemory = sql.NoMemory

-- the error without the place of a syntax error, which is judged as 0
abbrev pub placeless : Fault → Fault
placeless (Lex fault) = Lex fault
placeless (Schema fault) = Schema (placeless_schema fault)
placeless (Load fault) = Load fault
placeless (Sql fault) = Sql (placeless_sql fault)
placeless (Name fault) = Name fault
