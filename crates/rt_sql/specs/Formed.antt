-- Which trees are formed, and the tokens of a tree.
use Rattle.std.specs.Prelude.{◌≡◌, false, true, List, map}
use Rattle.rt_token.specs.Words.{all_formed, kind_of, kinds}
use Rattle.rt_sql.specs.Depth.{is_deep}
use Rattle.rt_token.specs.declared.token.Token.{Token}
use Rattle.rt_token.specs.declared.token.TokenKind.{TokenKind}
use Rattle.rt_tree.specs.Spelled.{spelled_sql}
use Rattle.rt_tree.specs.declared.tree.Sql.{Sql}

-- the kinds of a tree's tokens
abbrev pub spelled_kinds : Sql → List TokenKind
spelled_kinds t = map kind_of (spelled_sql t)

-- its names are names, its numbers are from 0 to 2^127 - 1, and it is not nested too deep
abbrev pub IsFormed : Sql → Type 0
IsFormed t = (all_formed (spelled_sql t) ≡ true) × (is_deep (spelled_kinds t) ≡ false)

-- the tokens are those of the tree, which is formed
abbrev pub IsTreeOf : List Token → Sql → Type 0
IsTreeOf tokens t = IsFormed t × (spelled_kinds t ≡ kinds tokens)
