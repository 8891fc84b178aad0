-- The spellings of each token (ISO/IEC 9075-2, 5.2 and 5.3): the bytes that it may be read
-- from.
use Rattle.std.specs.Prelude.{◌≡◌, ◌≢◌, ◌≤◌, ◌<◌, ℕ, pos, Bool, false, ◌&&◌, if◌then◌else◌, ◌==◌, List, [], ◌∷◌, ◌++◌, length, take, map, Contains, All, IfSome, IsTrue, Ok, Err, codes}
use Rattle.std.specs.Char.{to_ascii_lowercase}
use Rattle.std.specs.List.{between, list_all}
use Rattle.rt_value.specs.Numeral.{all_digits, decimal}
use Rattle.rt_token.specs.declared.sym.Sym.{Sym}
use Rattle.rt_token.specs.declared.sym.Sym.TheVariants.{Left, Right, Comma, Dot, Semi, Star, Plus, Minus, Eq, Ne, Lt, Le, Gt, Ge}
use Rattle.rt_token.specs.declared.token.TokenKind.{TokenKind}
use Rattle.rt_token.specs.declared.token.TokenKind.TheVariants.{Word, Quoted, Number, Str}
use Rattle.rt_token.specs.declared.token.TokenKind.TheVariants as kind
use Rattle.rt_token.specs.declared.token.Token.{Token}
use Rattle.rt_token.specs.Lexed.{Front, Text, is_letter, is_word_byte, largest}

abbrev pub spellings : Sym → List Text
spellings Left = codes "(" ∷ []
spellings Right = codes ")" ∷ []
spellings Comma = codes "," ∷ []
spellings Dot = codes "." ∷ []
spellings Semi = codes ";" ∷ []
spellings Star = codes "*" ∷ []
spellings Plus = codes "+" ∷ []
spellings Minus = codes "-" ∷ []
spellings Eq = codes "=" ∷ []
spellings Ne = codes "<>" ∷ codes "!=" ∷ []
spellings Lt = codes "<" ∷ []
spellings Le = codes "<=" ∷ []
spellings Gt = codes ">" ∷ []
spellings Ge = codes ">=" ∷ []

-- a letter or `_`, then letters, digits and `_`
abbrev pub is_word : Text → Bool
is_word [] = false
is_word (b ∷ z) = is_letter b && list_all is_word_byte z

-- the text with each quote in it doubled
abbrev pub doubled : ℕ → Text → Text
doubled q [] = []
doubled q (c ∷ z) = if c == q then q ∷ q ∷ doubled q z else c ∷ doubled q z

abbrev pub enclosed : ℕ → Text → Text
enclosed q content = q ∷ doubled q content ++ q ∷ []

abbrev pub IsReading : TokenKind → Text → Type 0
IsReading (Word w) s = IsTrue (is_word s) × (w ≡ map to_ascii_lowercase s)
IsReading (Quoted content) s = (content ≢ []) × (s ≡ enclosed 34 content)
IsReading (Number n) s = IsTrue (all_digits s) × (0 < length s) × (n ≡ pos (decimal s)) × (decimal s ≤ largest)
IsReading (Str content) s = s ≡ enclosed 39 content
IsReading (kind.Sym y) s = Contains (spellings y) s

-- the token at the front of a text, if there is one, is read from its bytes
abbrev pub IsRead : Front → Text → Type 0
IsRead (Ok l) z = IfSome l.kind (λ k. IsReading k (take l.len z))
IsRead (Err e) z = Unit {0}

-- each token is read from the bytes of its span
abbrev pub AreReadings : Text → List Token → Type 0
AreReadings text ts = All (λ t. IsReading t.kind (between t.span.from t.span.to text)) ts
