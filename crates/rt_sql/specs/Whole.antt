-- What tokens say, as a value. By the law `read_is_tree` the tree that is read here is just the one
-- formed tree that the tokens have.
use Rattle.std.specs.Prelude.{Bool, true, false, List, Option, Some, None, Result, Ok, Err}
use Rattle.std.specs.Option.{option_and_then}
use Rattle.rt_token.specs.Words.{kinds, marks}
use Rattle.rt_sql.specs.Depth.{is_deep}
use Rattle.rt_sql.specs.Reads.{read_sql}
use Rattle.rt_sql.specs.Refusals.{refusal}
use Rattle.rt_sql.specs.declared.fault.SqlFault.{SqlFault}
use Rattle.rt_sql.specs.declared.fault.SqlFault.TheVariants as fault
use Rattle.rt_token.specs.declared.token.Token.{Token}
use Rattle.rt_tree.specs.declared.tree.Sql.{Sql}

abbrev pub unless_deep : Bool → Option Sql → Option Sql
unless_deep true o = None
unless_deep false o = o

-- the formed tree that tokens have, if they have one
unfoldable pub tree_read : List Token → Option Sql
tree_read tokens = unless_deep (is_deep (kinds tokens)) (option_and_then read_sql (marks (kinds tokens)))

abbrev pub of_tree : Option Sql → Result Sql SqlFault
of_tree None = Err (fault.Syntax 0)
of_tree (Some t) = Ok t

abbrev pub unless_refused : Option SqlFault → Option Sql → Result Sql SqlFault
unless_refused (Some f) o = Err f
unless_refused None o = of_tree o

-- the tree of the tokens, or their first error; the place of a syntax error is left open, and given
-- as 0
abbrev pub sql_read : List Token → Result Sql SqlFault
sql_read tokens = unless_refused (refusal tokens) (tree_read tokens)

-- an answer without the place of a syntax error
abbrev pub placeless : Result Sql SqlFault → Result Sql SqlFault
placeless (Ok t) = Ok t
placeless (Err (fault.Unsupported w at)) = Err (fault.Unsupported w at)
placeless (Err fault.TooDeep) = Err fault.TooDeep
placeless (Err (fault.Syntax at)) = Err (fault.Syntax 0)
placeless (Err fault.NoMemory) = Err fault.NoMemory
