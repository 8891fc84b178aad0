-- When tokens are nested too deep: our own limits.
use Rattle.std.specs.Prelude.{Bool, false, ◌||◌, List, bytes_eq, codes, count_by, nat_lt}
use Rattle.rt_token.specs.declared.token.TokenKind.{TokenKind}
use Rattle.rt_token.specs.declared.token.TokenKind.TheVariants as kind
use Rattle.rt_tree.specs.Nesting.{opens_too_many}

-- a keyword whose meaning repeats its operands
abbrev pub is_doubling : TokenKind → Bool
is_doubling (kind.Word w) = bytes_eq w (codes "leftjoin") || bytes_eq w (codes "divide")
is_doubling (kind.Quoted t) = false
is_doubling (kind.Number n) = false
is_doubling (kind.Str t) = false
is_doubling (kind.Sym y) = false

-- more than 8 LEFTJOINs and DIVIDEs together
abbrev pub doubles_too_many : List TokenKind → Bool
doubles_too_many ks = nat_lt 8 (count_by is_doubling ks)

abbrev pub is_deep : List TokenKind → Bool
is_deep ks = opens_too_many 0 0 ks || doubles_too_many ks
