-- What reading a schema answers.
use Rattle.std.specs.Prelude.{◌≡◌, ℕ, List, Result, Ok, Err}
use Rattle.rt_token.specs.Places.{IsPlace}
use Rattle.rt_schema.specs.declared.table.Table.{Table}
use Rattle.rt_token.specs.Lexed.{Text, lexed}
use Rattle.rt_token.specs.declared.token.Token.{Token}
use Rattle.rt_ddl.specs.Meaning.{schema_of}
use Rattle.rt_ddl.specs.Parts.{table_texts}
use Rattle.rt_ddl_tree.specs.Spelled.{IsTreeOf}
use Rattle.rt_ddl.specs.declared.fault.SchemaFault.{SchemaFault}
use Rattle.rt_ddl.specs.declared.fault.SchemaFault.TheVariants as fault
use Rattle.rt_ddl_tree.specs.declared.tree.SchemaText.{SchemaText}

abbrev pub Answer : Type 0
Answer = Result (List Table) SchemaFault

-- the text has the tokens of a tree that gives this answer
abbrev pub HasTree : Text → Answer → Type 0
HasTree text a = (tokens : List Token) × (tree : SchemaText) × (lexed text ≡ Ok tokens) × IsTreeOf tokens tree × (schema_of (table_texts tree) ≡ a)

-- the text has tokens, but those of no tree, and `at` is the place of one of them
abbrev pub HasNoTree : Text → ℕ → Type 0
HasNoTree text at = (tokens : List Token) × (lexed text ≡ Ok tokens) × ((tree : SchemaText) → ¬ IsTreeOf tokens tree) × IsPlace tokens at

-- when each answer comes; NoMemory may come anywhere
abbrev pub IsAnswer : Text → Answer → Type 0
IsAnswer text (Ok tables) = HasTree text (Ok tables)
IsAnswer text (Err (fault.Lex f)) = lexed text ≡ Err f
IsAnswer text (Err (fault.Syntax at)) = HasNoTree text at
IsAnswer text (Err (fault.DuplicateName n)) = HasTree text (Err (fault.DuplicateName n))
IsAnswer text (Err (fault.UnknownName n)) = HasTree text (Err (fault.UnknownName n))
IsAnswer text (Err (fault.KeyTypes n)) = HasTree text (Err (fault.KeyTypes n))
IsAnswer text (Err (fault.TooMany e)) = HasTree text (Err (fault.TooMany e))
IsAnswer text (Err (fault.CheckTypes n)) = HasTree text (Err (fault.CheckTypes n))
IsAnswer text (Err fault.NoMemory) = Unit {0}

-- the answer of any tree that the tokens have
abbrev pub TreeAnswer : Text → (Answer → Type 0) → Type 0
TreeAnswer text P = (tokens : List Token) (tree : SchemaText) → lexed text ≡ Ok tokens → IsTreeOf tokens tree → P (schema_of (table_texts tree))
