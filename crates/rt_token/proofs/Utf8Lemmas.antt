-- Of a text that is UTF-8, no error says that it isn't.
use Rattle.std.proofs.Common.{◌≡◌, ◌+◌, ◌-◌, ℕ, zero, suc, [], ◌∷◌, drop, refl, Option, Some, None, Bool, true, false, Result, Ok, Err, subst, take}
use Rattle.std.specs.Prelude.{◌==◌, ◌&&◌, if◌then◌else◌, nat_lt, slice_index}
use Rattle.std.specs.Char.{is_ascii_digit}
use Rattle.std.specs.List.{prefix_len}
use Rattle.std.specs.Str.{IsUtf8, is_utf8}
use Rattle.std.proofs.lemmas.Str.{IsUtf8-from_is_utf8}
use Rattle.rt_value.specs.Gives.{Gives}
use Rattle.rt_value.specs.Numeral.{decimal}
use Rattle.rt_token.specs.declared.fault.LexFault.{LexFault}
use Rattle.rt_token.specs.declared.fault.LexFault.TheVariants.{NotUtf8, BadByte, OpenText, OpenComment, BigNumber, NoMemory}
use Rattle.rt_token.specs.declared.token.TokenKind.{TokenKind}
use Rattle.rt_token.specs.Lexed.{Front, Text, Tokens, closing, comment_end, comment_of, front, go_on, is_letter, is_space, largest, lexed_from, number, quoted_of, symbol, text_of, then_lexed}
use Rattle.rt_token.specs.Layout.{TellsUtf8, is_memory}

abbrev pub IsLexical : LexFault → Type 0
IsLexical (NotUtf8 at) = ⊥
IsLexical (BadByte at) = Unit {0}
IsLexical (OpenText at) = Unit {0}
IsLexical (OpenComment at) = Unit {0}
IsLexical (BigNumber at) = Unit {0}
IsLexical NoMemory = Unit {0}

abbrev pub FailsLexically : {T : Type 0} → Result T LexFault → Type 0
FailsLexically (Ok x) = Unit {0}
FailsLexically (Err e) = IsLexical e

either : (b : Bool) (x y : Front) → FailsLexically x → FailsLexically y → FailsLexically (if b then x else y)
either true x y h k = h
either false x y h k = k

text-lexical : (at : ℕ) (o : Option (Text × ℕ)) → FailsLexically (text_of at o)
text-lexical at None = tt
text-lexical at (Some p) = tt

quoted-lexical : (at : ℕ) (o : Option (Text × ℕ)) → FailsLexically (quoted_of at o)
quoted-lexical at None = tt
quoted-lexical at (Some ([], n)) = tt
quoted-lexical at (Some (c ∷ cs, n)) = tt

comment-lexical : (at : ℕ) (o : Option ℕ) → FailsLexically (comment_of at o)
comment-lexical at None = tt
comment-lexical at (Some n) = tt

number-lexical : (at : ℕ) (z : Text) → FailsLexically (number at z)
number-lexical at z = let n = prefix_len is_ascii_digit z in
    either (nat_lt largest (decimal (take n z))) _ _ tt (either (is_letter (slice_index z n)) _ _ tt tt)

symbol-lexical : (at b next : ℕ) → FailsLexically (symbol at b next)
unfolding symbol
symbol-lexical at b next =
    either (b == 40) _ _ tt (either (b == 41) _ _ tt (either (b == 44) _ _ tt (either (b == 46) _ _ tt
    (either (b == 59) _ _ tt (either (b == 42) _ _ tt (either (b == 43) _ _ tt (either (b == 45) _ _ tt
    (either (b == 61) _ _ tt
    (either (b == 60) _ _ (either (next == 62) _ _ tt (either (next == 61) _ _ tt tt))
    (either (b == 62) _ _ (either (next == 61) _ _ tt tt)
    (either (b == 33 && next == 61) _ _ tt tt)))))))))))

front-lexical : (at : ℕ) (z : Text) → FailsLexically (front at z)
unfolding front
front-lexical at z =
    let b = slice_index z 0 in
    let next = slice_index z 1 in
    either (is_space b) _ _ tt (either (is_letter b) _ _ tt (either (is_ascii_digit b) _ _ (number-lexical at z)
    (either (b == 39) _ _ (text-lexical at (closing 39 (drop 1 z))) (either (b == 34) _ _ (quoted-lexical at (closing 34 (drop 1 z)))
    (either (b == 45 && next == 45) _ _ tt (either (b == 47 && next == 42) _ _ (comment-lexical at (comment_end (drop 2 z))) (symbol-lexical at b next)))))))

before-lexical : (at n : ℕ) (k : Option TokenKind) (r : Tokens) → FailsLexically r → FailsLexically (go_on at k n r)
before-lexical at n None r h = h
before-lexical at n (Some k) (Ok ts) h = tt
before-lexical at n (Some k) (Err e) h = h

then-lexical : (at : ℕ) (f : Front) (more : ℕ → Tokens) → FailsLexically f → ((n : ℕ) → FailsLexically (more n)) → FailsLexically (then_lexed at f more)
then-lexical at (Ok l) more h k = before-lexical at l.len l.kind (more l.len) (k l.len)
then-lexical at (Err e) more h k = h

lexical : (inside at : ℕ) (z : Text) → FailsLexically (lexed_from inside at z)
unfolding lexed_from
lexical inside at [] = tt
lexical (suc inside) at (b ∷ z) = lexical inside (at + 1) z
lexical zero at (b ∷ z) = then-lexical at (front at (b ∷ z)) (λ n. lexed_from (n - 1) (at + 1) z) (front-lexical at (b ∷ z)) (λ n. lexical (n - 1) (at + 1) z)

pub tells-utf8 : (r : Tokens) (text : Text) → IsUtf8 text → Gives is_memory r (lexed_from 0 0 text) → TellsUtf8 r text
tells-utf8 (Ok ts) text u g = u
tells-utf8 (Err (NotUtf8 n)) text u g = absurd (subst (λ (r : Tokens). FailsLexically r) g (lexical 0 0 text))
tells-utf8 (Err (BadByte n)) text u g = u
tells-utf8 (Err (OpenText n)) text u g = u
tells-utf8 (Err (OpenComment n)) text u g = u
tells-utf8 (Err (BigNumber n)) text u g = u
tells-utf8 (Err NoMemory) text u g = tt

not-of : (text : Text) (b : Bool) → is_utf8 text ≡ b → (IsUtf8 text → ⊥) → b ≡ false
not-of text true e h = absurd (h (IsUtf8-from_is_utf8 text e))
not-of text false e h = refl

pub not-utf8 : (text : Text) → (IsUtf8 text → ⊥) → is_utf8 text ≡ false
not-utf8 text h = not-of text (is_utf8 text) refl h
