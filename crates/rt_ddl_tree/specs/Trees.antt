-- What reading the tree of tokens answers, and the tree that is read.
use Rattle.std.specs.Prelude.{List, Option, Result, Ok, Err}
use Rattle.std.specs.Option.{option_and_then}
use Rattle.rt_token.specs.Words.{kinds, marks}
use Rattle.rt_token.specs.declared.read_fault.ReadFault.{ReadFault}
use Rattle.rt_token.specs.declared.read_fault.ReadFault.TheVariants.{Syntax, NoMemory}
use Rattle.rt_token.specs.declared.token.Token.{Token}
use Rattle.rt_ddl_tree.specs.Reads.{read_text}
use Rattle.rt_ddl_tree.specs.Spelled.{IsTreeOf}
use Rattle.rt_ddl_tree.specs.declared.tree.SchemaText.{SchemaText}

abbrev pub TreeRead : List Token → Result SchemaText ReadFault → Type 0
TreeRead tokens (Ok t) = IsTreeOf tokens t
TreeRead tokens (Err (Syntax left)) = (t : SchemaText) → ¬ IsTreeOf tokens t
TreeRead tokens (Err NoMemory) = Unit {0}

-- the formed tree that tokens have, if they have one: by the law `read_is_tree` it is the tree that
-- is read
unfoldable pub tree_read : List Token → Option SchemaText
tree_read tokens = option_and_then read_text (marks (kinds tokens))
