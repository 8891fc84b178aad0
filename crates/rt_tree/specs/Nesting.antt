-- When parentheses are nested too deep: a limit of our own, for queries in both languages.
use Rattle.std.specs.Prelude.{ℕ, ◌+◌, Bool, true, false, ◌||◌, List, [], ◌∷◌, nat_lt}
use Rattle.rt_token.specs.declared.sym.Sym.{Sym}
use Rattle.rt_token.specs.declared.sym.Sym.TheVariants as sign
use Rattle.rt_token.specs.declared.token.TokenKind.{TokenKind}
use Rattle.rt_token.specs.declared.token.TokenKind.TheVariants as kind

abbrev pub is_left_sign : Sym → Bool
is_left_sign sign.Left = true
is_left_sign y = false

abbrev pub is_right_sign : Sym → Bool
is_right_sign sign.Right = true
is_right_sign y = false

abbrev pub is_sign : (Sym → Bool) → TokenKind → Bool
is_sign f (kind.Word w) = false
is_sign f (kind.Quoted t) = false
is_sign f (kind.Number n) = false
is_sign f (kind.Str t) = false
is_sign f (kind.Sym y) = f y

abbrev pub is_left : TokenKind → Bool
is_left k = is_sign is_left_sign k

abbrev pub is_right : TokenKind → Bool
is_right k = is_sign is_right_sign k

abbrev pub one_if : Bool → ℕ
one_if true = 1
one_if false = 0

-- at some token the `(` so far, with `opened` before, are more than 64 above the `)` so far, with
-- `closed` before
abbrev pub opens_too_many : ℕ → ℕ → List TokenKind → Bool
opens_too_many opened closed [] = false
opens_too_many opened closed (k ∷ ks) =
    nat_lt (closed + one_if (is_right k) + 64) (opened + one_if (is_left k))
    || opens_too_many (opened + one_if (is_left k)) (closed + one_if (is_right k)) ks
