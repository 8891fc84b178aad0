-- The tokens of a text, or its first error: ISO/IEC 9075-2, 5.2 <token> and <separator> and 5.3
-- <literal>. Words, white space and digits are ASCII, bracketed comments don't nest, and numbers
-- are whole. Bytes are written as codes: 95 is `_`, 10 ends a line, 39 is ', 34 is ", 45 is -.
use Rattle.std.specs.Prelude.{ℕ, zero, suc, ◌+◌, ◌-◌, ◌^◌, pos, Bool, not, ◌&&◌, ◌||◌, if◌then◌else◌, ◌==◌, nat_lt, List, [], ◌∷◌, take, drop, map, slice_index, Option, Some, None, option_map, Result, Ok, Err}
use Rattle.std.specs.Char.{is_ascii_digit, is_ascii_alphabetic, is_ascii_alphanumeric, to_ascii_lowercase}
use Rattle.std.specs.List.{prefix_len}
use Rattle.std.specs.Str.{is_utf8}
use Rattle.std.specs.Str.Lossy.{utf8_valid_len}
use Rattle.rt_value.specs.Bytes.{space, tab, line_feed, carriage_return, form_feed, underscore, asterisk, solidus, left_paren, right_paren, comma, period, semicolon, plus_sign, minus_sign, equals, less_than, greater_than, exclamation_mark, quote, double_quote}
use Rattle.rt_value.specs.Numeral.{decimal}
use Rattle.rt_token.specs.declared.sym.Sym.{Sym}
use Rattle.rt_token.specs.declared.sym.Sym.TheVariants as sym
use Rattle.rt_token.specs.declared.token.TokenKind.{TokenKind}
use Rattle.rt_token.specs.declared.token.TokenKind.TheVariants as kind
use Rattle.rt_token.specs.declared.token.Token.{Token}
use Rattle.rt_token.specs.declared.fault.LexFault.{LexFault}
use Rattle.rt_token.specs.declared.fault.LexFault.TheVariants.{NotUtf8, BadByte, OpenText, OpenComment, BigNumber}
use Rattle.rt_token.specs.declared.lexeme.Lexeme.{Lexeme}

abbrev pub Text : Type 0
Text = List ℕ

-- ---- classes of bytes

-- white space
abbrev pub is_space : ℕ → Bool
is_space b = b == space || b == tab || b == line_feed || b == carriage_return || b == form_feed

abbrev pub is_letter : ℕ → Bool
is_letter b = is_ascii_alphabetic b || b == underscore

abbrev pub is_word_byte : ℕ → Bool
is_word_byte b = is_ascii_alphanumeric b || b == underscore

abbrev pub is_before_line_end : ℕ → Bool
is_before_line_end b = not (b == line_feed)

-- ---- what is at the front of a text that begins at `at`: a token of so many bytes, or so many
-- bytes to pass over, or an error

abbrev pub Front : Type 0
Front = Result Lexeme LexFault

abbrev pub token : TokenKind → ℕ → Front
token k n = Ok (record { kind = Some k; len = n })

abbrev pub passed : ℕ → Front
passed n = Ok (record { kind = None; len = n })

abbrev pub word : Text → Front
word z = let n = prefix_len is_word_byte z in token (kind.Word (map to_ascii_lowercase (take n z))) n

abbrev pub largest : ℕ
largest = 2 ^ 127 - 1

abbrev pub number : ℕ → Text → Front
number at z =
    let n = prefix_len is_ascii_digit z in
    if nat_lt largest (decimal (take n z)) then Err (BigNumber at)
    else (if is_letter (slice_index z n) then Err (BadByte (at + n)) else token (kind.Number (pos (decimal (take n z)))) n)

-- what comes before the closing quote, each doubled quote read as one, and the number of bytes up
-- to and with that quote
abbrev pub closing : ℕ → Text → Option (Text × ℕ)
closing q [] = None
closing q (c ∷ []) = if c == q then Some ([], 1) else None
closing q (c ∷ d ∷ z) =
    if c == q then (if d == q then option_map (λ p. (q ∷ p.0, p.1 + 2)) (closing q z) else Some ([], 1))
    else option_map (λ p. (c ∷ p.0, p.1 + 1)) (closing q (d ∷ z))

abbrev pub text_of : ℕ → Option (Text × ℕ) → Front
text_of at None = Err (OpenText at)
text_of at (Some p) = token (kind.Str p.0) (p.1 + 1)

abbrev pub quoted_of : ℕ → Option (Text × ℕ) → Front
quoted_of at None = Err (OpenText at)
quoted_of at (Some ([], n)) = Err (BadByte at)
quoted_of at (Some (c ∷ cs, n)) = token (kind.Quoted (c ∷ cs)) (n + 1)

-- the number of bytes up to and with the first `*/`
abbrev pub comment_end : Text → Option ℕ
comment_end [] = None
comment_end (c ∷ []) = None
comment_end (c ∷ d ∷ z) = if c == asterisk && d == solidus then Some 2 else option_map (λ n. n + 1) (comment_end (d ∷ z))

abbrev pub comment_of : ℕ → Option ℕ → Front
comment_of at None = Err (OpenComment at)
comment_of at (Some n) = passed (n + 2)

abbrev pub one : Sym → Front
one s = token (kind.Sym s) 1

abbrev pub two : Sym → Front
two s = token (kind.Sym s) 2

-- a symbol, by its first byte and the one after it
unfoldable pub symbol : ℕ → ℕ → ℕ → Front
symbol at b next =
    if b == left_paren then one sym.Left else (if b == right_paren then one sym.Right else (if b == comma then one sym.Comma else (if b == period then one sym.Dot
    else (if b == semicolon then one sym.Semi else (if b == asterisk then one sym.Star else (if b == plus_sign then one sym.Plus else (if b == minus_sign then one sym.Minus
    else (if b == equals then one sym.Eq
    else (if b == less_than then (if next == greater_than then two sym.Ne else (if next == equals then two sym.Le else one sym.Lt))
    else (if b == greater_than then (if next == equals then two sym.Ge else one sym.Gt)
    else (if b == exclamation_mark && next == equals then two sym.Ne else Err (BadByte at))))))))))))

unfoldable pub front : ℕ → Text → Front
front at z =
    let b = slice_index z 0 in
    let next = slice_index z 1 in
    if is_space b then passed 1
    else (if is_letter b then word z
    else (if is_ascii_digit b then number at z
    else (if b == quote then text_of at (closing quote (drop 1 z))
    else (if b == double_quote then quoted_of at (closing double_quote (drop 1 z))
    else (if b == minus_sign && next == minus_sign then passed (prefix_len is_before_line_end z)
    else (if b == solidus && next == asterisk then comment_of at (comment_end (drop 2 z))
    else symbol at b next))))))

-- ---- the whole text

abbrev pub Tokens : Type 0
Tokens = Result (List Token) LexFault

abbrev pub before : Token → Tokens → Tokens
before t (Ok ts) = Ok (t ∷ ts)
before t (Err e) = Err e

abbrev pub go_on : ℕ → Option TokenKind → ℕ → Tokens → Tokens
go_on at None n more = more
go_on at (Some k) n more = before (record { kind = k; span = record { from = at; to = at + n } }) more

abbrev pub then_lexed : ℕ → Front → (ℕ → Tokens) → Tokens
then_lexed at (Ok l) more = go_on at l.kind l.len (more l.len)
then_lexed at (Err e) more = Err e

-- the tokens of a text that begins at `at`, whose first `inside` bytes belong to what was read
-- before
unfoldable pub lexed_from : ℕ → ℕ → Text → Tokens
lexed_from inside at [] = Ok []
lexed_from (suc inside) at (b ∷ z) = lexed_from inside (at + 1) z
lexed_from zero at (b ∷ z) = then_lexed at (front at (b ∷ z)) (λ n. lexed_from (n - 1) (at + 1) z)

abbrev pub lexed : Text → Tokens
lexed text = if is_utf8 text then lexed_from 0 0 text else Err (NotUtf8 (utf8_valid_len text))
