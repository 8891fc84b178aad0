-- What an argument is to `clap`.
use Rattle.std.proofs.lemmas.Bool.Decides.{Decides-eqb}
use Rattle.std.proofs.Common.{◌≡◌, ◌∙◌, ℕ, [], ◌∷◌, ap, sym, subst, refl, Bool, true, false, Option, Some, None, codes}
use Rattle.std.specs.Prelude.{◌==◌, if◌then◌else◌, slice_get}
use Rattle.std.specs.List.{after_first, before_first, list_any}
use Rattle.std.specs.Str.{IsUtf8, bytes_eq, chars, encode_utf8_all}
use Rattle.std.proofs.lemmas.Str.{chars-encodes}
use Rattle.std.specs.Char.{encode_utf8}
use Rattle.clap.specs.Lexer.{long_of, short_of}
use Rattle.rt_io.specs.Reading.{Setting, Text, Word, after_dash, after_dashes, conflicts, dashes, name_of, option, option_or_setting, plain, setting, unknown, word_of, work}
use Rattle.rt_io.proofs.Rows.{same_id}

-- what the argument is to us, and what `clap`'s lexer makes of it
pub data IsRead : Text → Word → Type 0 where
  as_plain : (w : Text) → long_of w ≡ None → short_of w ≡ None → bytes_eq w (45 ∷ 45 ∷ []) ≡ false → IsRead w plain
  as_dashes : (w : Text) → w ≡ 45 ∷ 45 ∷ [] → IsRead w dashes
  as_option : (w : Text) (s : Setting) → long_of w ≡ Some (name_of s, None) → bytes_eq w (45 ∷ 45 ∷ []) ≡ false → IsRead w (option s)
  as_setting : (w : Text) (s : Setting) (value : Text) → long_of w ≡ Some (name_of s, Some value) → bytes_eq w (45 ∷ 45 ∷ []) ≡ false → IsRead w (setting s value)
  as_long : (w name : Text) (value : Option Text) → long_of w ≡ Some (name, value) → bytes_eq w (45 ∷ 45 ∷ []) ≡ false
      → bytes_eq (codes "conflicts") name ≡ false → bytes_eq (codes "work") name ≡ false → IsRead w unknown
  as_short : (w : Text) (flag : ℕ) (rest : Text) → w ≡ 45 ∷ flag ∷ rest → long_of w ≡ None → short_of w ≡ Some (flag ∷ rest) → bytes_eq w (45 ∷ 45 ∷ []) ≡ false → IsRead w unknown

-- an argument that begins with `--` and goes on
module _ (x : ℕ) (rest : Text) where
  abbrev whole : Text
  whole = 45 ∷ 45 ∷ x ∷ rest

  abbrev name : Text
  name = before_first (λ c. c == 61) (x ∷ rest)

  long-with : (b : Bool) → list_any (λ c. c == 61) (x ∷ rest) ≡ b → long_of whole ≡ Some (name, if b then Some (after_first (λ c. c == 61) (x ∷ rest)) else None)
  long-with b e = rw e refl

  known : (s : Setting) → name_of s ≡ name → (b : Bool) → list_any (λ c. c == 61) (x ∷ rest) ≡ b
      → IsRead whole (if b then setting s (after_first (λ c. c == 61) (x ∷ rest)) else option s)
  known s e true h = as_setting whole s _ (rw e (long-with true h)) refl
  known s e false h = as_option whole s (rw e (long-with false h)) refl

  not_work : bytes_eq (codes "conflicts") name ≡ false → (b : Bool) → bytes_eq (codes "work") name ≡ b
      → IsRead whole (if b then option_or_setting work (x ∷ rest) else unknown)
  not_work n true e = known work (same_id (codes "work") name e) _ refl
  not_work n false e = as_long whole name _ refl refl n e

  by_name : (b : Bool) → bytes_eq (codes "conflicts") name ≡ b
      → IsRead whole (if b then option_or_setting conflicts (x ∷ rest) else if bytes_eq (codes "work") name then option_or_setting work (x ∷ rest) else unknown)
  by_name true e = known conflicts (same_id (codes "conflicts") name e) _ refl
  by_name false e = not_work e _ refl

after-dashes-read : (rest : Text) → IsRead (45 ∷ 45 ∷ rest) (after_dashes rest)
after-dashes-read [] = as_dashes (45 ∷ 45 ∷ []) refl
after-dashes-read (x ∷ rest) = by_name x rest _ refl

eq-number : (x y : ℕ) → (x == y) ≡ true → x ≡ y
eq-number x y e = (Decides-eqb x y).0 e

second-read : (x : ℕ) (rest : Text) (b : Bool) → (x == 45) ≡ b → IsRead (45 ∷ x ∷ rest) (if b then after_dashes rest else unknown)
second-read x rest true e = subst (λ (y : ℕ). IsRead (45 ∷ y ∷ rest) (after_dashes rest)) (sym (eq-number x 45 e)) (after-dashes-read rest)
second-read x rest false e = as_short (45 ∷ x ∷ rest) x rest refl (rw e refl) (rw e refl) (rw e refl)

after-dash-read : (rest : Text) → IsRead (45 ∷ rest) (after_dash rest)
after-dash-read [] = as_plain (45 ∷ []) refl refl refl
after-dash-read (x ∷ rest) = second-read x rest (x == 45) refl

first-read : (x : ℕ) (rest : Text) (b : Bool) → (x == 45) ≡ b → IsRead (x ∷ rest) (if b then after_dash rest else plain)
first-read x rest true e = subst (λ (y : ℕ). IsRead (y ∷ rest) (after_dash rest)) (sym (eq-number x 45 e)) (after-dash-read rest)
first-read x rest false e = as_plain (x ∷ rest) (rw e refl) (rw e refl) (rw e refl)

-- each argument is read
pub word-read : (w : Text) → IsRead w (word_of w)
word-read [] = as_plain [] refl refl refl
word-read (x ∷ rest) = first-read x rest (x == 45) refl

-- a text with a byte has a character
has-char : (flag : ℕ) (rest chosen cs : Text) → encode_utf8_all cs ≡ 45 ∷ flag ∷ rest → cs ≡ 45 ∷ chosen → (c : ℕ) × (slice_get chosen 0 ≡ Some c)
unfolding encode_utf8
has-char flag rest [] cs e is = let short : 45 ∷ [] ≡ 45 ∷ flag ∷ rest = subst (λ (x : Text). encode_utf8_all x ≡ 45 ∷ flag ∷ rest) is e in cc short
has-char flag rest (c ∷ chosen) cs e is = (c, refl)

chars-after-dash : (rest : Text) → chars (45 ∷ rest) ≡ 45 ∷ chars rest
unfolding chars
chars-after-dash [] = refl
chars-after-dash (x ∷ rest) = refl

pub flag-char : (flag : ℕ) (rest : Text) → IsUtf8 (45 ∷ flag ∷ rest) → (c : ℕ) × (slice_get (chars (flag ∷ rest)) 0 ≡ Some c)
flag-char flag rest h = has-char flag rest (chars (flag ∷ rest)) h.0 h.1.1
    (sym (chars-encodes h.0 h.1.0) ∙ ap chars h.1.1 ∙ chars-after-dash (flag ∷ rest))
