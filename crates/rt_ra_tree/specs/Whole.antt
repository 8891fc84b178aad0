-- What tokens say, as a value. By the law `read_is_tree` the tree that is read here is just the one
-- formed tree that the tokens have.
use Rattle.std.specs.Prelude.{Bool, true, false, List, Option, Some, None, Result, Ok, Err}
use Rattle.std.specs.Option.{option_and_then}
use Rattle.rt_token.specs.Words.{kinds, marks}
use Rattle.rt_ra_tree.specs.Depth.{is_deep}
use Rattle.rt_ra_tree.specs.Reads.{read_text}
use Rattle.rt_ra_tree.specs.Refusals.{refusal}
use Rattle.rt_ra_tree.specs.declared.fault.RaFault.{RaFault}
use Rattle.rt_ra_tree.specs.declared.fault.RaFault.TheVariants as fault
use Rattle.rt_ra_tree.specs.declared.tree.RaText.{RaText}
use Rattle.rt_token.specs.declared.token.Token.{Token}

abbrev pub unless_deep : Bool → Option RaText → Option RaText
unless_deep true o = None
unless_deep false o = o

-- the formed tree that tokens have, if they have one
unfoldable pub tree_read : List Token → Option RaText
tree_read tokens = unless_deep (is_deep (kinds tokens)) (option_and_then read_text (marks (kinds tokens)))

abbrev pub of_tree : Option RaText → Result RaText RaFault
of_tree None = Err (fault.Syntax 0)
of_tree (Some t) = Ok t

abbrev pub unless_refused : Option RaFault → Option RaText → Result RaText RaFault
unless_refused (Some f) o = Err f
unless_refused None o = of_tree o

-- the tree of the tokens, or their first error; the place of a syntax error is left open, and given
-- as 0
abbrev pub ra_read : List Token → Result RaText RaFault
ra_read tokens = unless_refused (refusal tokens) (tree_read tokens)

-- an answer without the place of a syntax error
abbrev pub placeless : Result RaText RaFault → Result RaText RaFault
placeless (Ok t) = Ok t
placeless (Err (fault.Syntax at)) = Err (fault.Syntax 0)
placeless (Err f) = Err f
