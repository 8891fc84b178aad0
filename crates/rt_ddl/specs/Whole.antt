-- What a text makes, as a value. By the law `read_is_tree` the tree that is read here is just the
-- one formed tree that the tokens have.
use Rattle.std.specs.Prelude.{List, Option, Some, None, Result, Ok, Err}
use Rattle.rt_token.specs.Lexed.{Text, lexed}
use Rattle.rt_token.specs.declared.fault.LexFault.{LexFault}
use Rattle.rt_token.specs.declared.token.Token.{Token}
use Rattle.rt_ddl.specs.Meaning.{schema_of}
use Rattle.rt_ddl.specs.Parts.{table_texts}
use Rattle.rt_ddl.specs.Read.{Answer}
use Rattle.rt_ddl_tree.specs.Trees.{tree_read}
use Rattle.rt_ddl.specs.declared.fault.SchemaFault.TheVariants as fault
use Rattle.rt_ddl_tree.specs.declared.tree.SchemaText.{SchemaText}

abbrev pub of_tree : Option SchemaText → Answer
of_tree None = Err (fault.Syntax 0)
of_tree (Some t) = schema_of (table_texts t)

abbrev pub of_tokens : Result (List Token) LexFault → Answer
of_tokens (Ok tokens) = of_tree (tree_read tokens)
of_tokens (Err f) = Err (fault.Lex f)

-- the schema that a text makes, or its first error; the place of a syntax error is left open, and
-- given as 0
abbrev pub schema_read : Text → Answer
schema_read text = of_tokens (lexed text)

-- an answer without the place of a syntax error
abbrev pub placeless : Answer → Answer
placeless (Ok tables) = Ok tables
placeless (Err (fault.Lex f)) = Err (fault.Lex f)
placeless (Err (fault.Syntax at)) = Err (fault.Syntax 0)
placeless (Err (fault.DuplicateName n)) = Err (fault.DuplicateName n)
placeless (Err (fault.UnknownName n)) = Err (fault.UnknownName n)
placeless (Err (fault.KeyTypes n)) = Err (fault.KeyTypes n)
placeless (Err (fault.TooMany e)) = Err (fault.TooMany e)
placeless (Err (fault.CheckTypes n)) = Err (fault.CheckTypes n)
placeless (Err fault.NoMemory) = Err fault.NoMemory
