-- Which place a syntax error may name: the start of a token of its text, the end of the last one,
-- or 0 in a text without tokens. Which of these it is stays open.
use Rattle.std.specs.Prelude.{◌≡◌, ℕ, Result, IfOk, IsOkAnd, ⊤}
use Rattle.rt_token.specs.Places.{IsPlace}
use Rattle.rt_token.specs.Lexed.{lexed}
use Rattle.rt_ddl.specs.declared.fault.SchemaFault.{SchemaFault}
use Rattle.rt_ddl.specs.declared.fault.SchemaFault.TheVariants as schema
use Rattle.rt_sql.specs.declared.fault.SqlFault.{SqlFault}
use Rattle.rt_sql.specs.declared.fault.SqlFault.TheVariants as sql
use Rattle.rt_input.specs.declared.part.Part.{Part}
use Rattle.rt_input.specs.declared.outcome.Fault.{Fault}
use Rattle.rt_input.specs.declared.outcome.Fault.TheVariants.{Lex, Schema, Load, Sql, Name}
use Rattle.rt_input.specs.declared.outcome.Outcome.{Outcome}
use Rattle.rt_input.specs.declared.outcome.Outcome.TheVariants as outcome
use Rattle.rt_input.specs.Source.{Text}

-- the texts of the parts
abbrev pub Parts : Type 0
Parts = Part → Result Text Outcome

abbrev pub IsPlaceIn : Text → ℕ → Type 0
IsPlaceIn text at = IsOkAnd (lexed text) (λ tokens. IsPlace tokens at)

abbrev pub SchemaStands : Text → SchemaFault → Type 0
SchemaStands text (schema.Lex fault) = ⊤
SchemaStands text (schema.Syntax at) = IsPlaceIn text at
SchemaStands text (schema.DuplicateName name) = ⊤
SchemaStands text (schema.UnknownName name) = ⊤
SchemaStands text (schema.KeyTypes table) = ⊤
SchemaStands text (schema.CheckTypes table) = ⊤
SchemaStands text (schema.TooMany excess) = ⊤
SchemaStands text schema.NoMemory = ⊤

abbrev pub SqlStands : Text → SqlFault → Type 0
SqlStands text (sql.Unsupported word at) = ⊤
SqlStands text sql.TooDeep = ⊤
SqlStands text (sql.Syntax at) = IsPlaceIn text at
SqlStands text sql.NoMemory = ⊤

abbrev pub Stands : Text → Fault → Type 0
Stands text (Lex fault) = ⊤
Stands text (Schema fault) = SchemaStands text fault
Stands text (Load fault) = ⊤
Stands text (Sql fault) = SqlStands text fault
Stands text (Name fault) = ⊤

-- a refusal of this part whose syntax error names a place of this text
abbrev pub PlacedIn : Part → Text → Outcome → Type 0
PlacedIn part text (outcome.Refused p fault) = (p ≡ part) × Stands text fault
PlacedIn part text outcome.Agree = ⊤
PlacedIn part text (outcome.Witness keep) = ⊤
PlacedIn part text outcome.Usage = ⊤
PlacedIn part text (outcome.Limit limit) = ⊤
PlacedIn part text (outcome.Spent s) = ⊤
PlacedIn part text (outcome.ReadFault p) = ⊤
PlacedIn part text outcome.WriteFault = ⊤
PlacedIn part text outcome.NoMemory = ⊤

-- the syntax error of a refusal names a place in the text of its part
abbrev pub Placed : Parts → Outcome → Type 0
Placed texts (outcome.Refused part fault) = IfOk (texts part) (λ text. Stands text fault)
Placed texts outcome.Agree = ⊤
Placed texts (outcome.Witness keep) = ⊤
Placed texts outcome.Usage = ⊤
Placed texts (outcome.Limit limit) = ⊤
Placed texts (outcome.Spent s) = ⊤
Placed texts (outcome.ReadFault part) = ⊤
Placed texts outcome.WriteFault = ⊤
Placed texts outcome.NoMemory = ⊤

-- it is no syntax error, whatever the texts
abbrev pub IsPlaceless : Outcome → Type 0
IsPlaceless o = (texts : Parts) → Placed texts o
