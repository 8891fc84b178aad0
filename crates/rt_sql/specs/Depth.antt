-- When tokens are nested too deep: our own limits.
use Rattle.std.specs.Prelude.{ℕ, ◌+◌, Bool, true, false, ◌||◌, if◌then◌else◌, List, [], ◌∷◌, bytes_eq, codes, count_by, nat_lt}
use Rattle.rt_token.specs.declared.sym.Sym.{Sym}
use Rattle.rt_token.specs.declared.sym.Sym.TheVariants as sign
use Rattle.rt_token.specs.declared.token.TokenKind.{TokenKind}
use Rattle.rt_token.specs.declared.token.TokenKind.TheVariants as kind
use Rattle.rt_tree.specs.Nesting.{is_sign, opens_too_many}

abbrev pub is_minus_sign : Sym → Bool
is_minus_sign sign.Minus = true
is_minus_sign y = false

abbrev pub is_word : List ℕ → TokenKind → Bool
is_word word (kind.Word w) = bytes_eq w word
is_word word (kind.Quoted t) = false
is_word word (kind.Number n) = false
is_word word (kind.Str t) = false
is_word word (kind.Sym y) = false

abbrev pub is_minus : TokenKind → Bool
is_minus k = is_sign is_minus_sign k

-- more than 64 SELECTs
abbrev pub selects_too_many : List TokenKind → Bool
selects_too_many ks = nat_lt 64 (count_by (is_word (codes "select")) ks)

-- more than 8 such tokens directly after one another, with `before` of them before
abbrev pub repeats : (TokenKind → Bool) → ℕ → List TokenKind → Bool
repeats test before [] = false
repeats test before (k ∷ ks) = if test k then (nat_lt 8 (before + 1) || repeats test (before + 1) ks) else repeats test 0 ks

abbrev pub is_deep : List TokenKind → Bool
is_deep ks = opens_too_many 0 0 ks || (selects_too_many ks || (repeats (is_word (codes "not")) 0 ks || repeats is_minus 0 ks))
