-- That the token at the front of a text is read from its bytes.
use Rattle.std.proofs.Common.{◌≡◌, ◌<◌, ◌+◌, ◌-◌, ◌≤◌, ◌∙◌, subst, ℕ, zero, suc, List, [], ◌∷◌, ◌++◌, length, refl, Option, Some, None, arith, IsTrue, true, false, Bool, take, drop, get_or, ap, sym, drop-drop, length-drop}
use Rattle.std.specs.Prelude.{option_map, ◌==◌, if◌then◌else◌, nat_le, IfOk, Ok, Err}
use Rattle.std.specs.List.{prefix_len}
use Rattle.std.specs.Str.{IsCharBoundary, IsUtf8}
use Rattle.std.proofs.lemmas.Str.{IsCharBoundary-after_ascii, IsCharBoundary-before_ascii}
use Rattle.std.proofs.lemmas.List.{get_or-drop}
use Rattle.std.proofs.lemmas.List.Sums.{prefix_len_passes}
use Rattle.std.proofs.lemmas.Bool.Decides.{nat_tests}
use Rattle.std.proofs.lemmas.List.Elements.{All-append, All-cons}
use Rattle.rt_token.specs.declared.token.Token.{Token}
use Rattle.rt_value.specs.Numeral.{decimal_to}
use Rattle.rt_token.specs.Lexed.{Front, Text, closing, is_letter, is_word_byte}
use Rattle.rt_token.specs.Spelled.{AreReadings, IsRead, IsReading, doubled, enclosed, is_word}
use Rattle.rt_token.specs.Layout.{AreInOrder}
use Rattle.rt_token.proofs.LexLemmas.{front-passes}

word-of : (b : ℕ) (z : Text) (m : ℕ) → is_word_byte b ≡ true → m ≡ prefix_len is_word_byte (b ∷ z) → m ≡ suc (prefix_len is_word_byte z)
word-of b z m h e = let n : 1 + prefix_len is_word_byte z ≡ suc (prefix_len is_word_byte z) = omega arith in e ∙ rw h n

word-front : (z : Text) (n : ℕ) → 0 < length z → is_letter (get_or z 0 0) ≡ true → n ≡ prefix_len is_word_byte z → IsTrue (is_word (take n z))
word-front [] n l h e = absurd (omega arith)
word-front (b ∷ z) n l h e =
    let w : is_word_byte b ≡ true = grind (arith) in
    rw (word-of b z n w e, h) (front-passes is_word_byte z)

pub first : (text : Text) (at : ℕ) → get_or (drop at text) 0 0 ≡ get_or text at 0
first text at = let z : at + 0 ≡ at = omega arith in get_or-drop at text 0 0 ∙ rw z refl

pub word-reading : (text : Text) (at n : ℕ) → at < length text → is_letter (get_or text at 0) ≡ true → n ≡ prefix_len is_word_byte (drop at text) → IsTrue (is_word (take n (drop at text)))
word-reading text at n l h e = word-front (drop at text) n (omega (arith, length-drop at text)) (rw first h) e

word-byte-ascii : (b : ℕ) → is_word_byte b ≡ true → b < 128
word-byte-ascii b h = grind (arith, nat_tests)

-- a text may be cut after a word
pub word-boundary : (text : Text) (at n : ℕ) → IsUtf8 text → at < length text → is_letter (get_or text at 0) ≡ true → n ≡ prefix_len is_word_byte (drop at text) → at + n ≤ length text
    → IsCharBoundary text (at + n)
word-boundary text at zero u l h e w = let a : at + 0 ≡ at = omega arith in rw a (IsCharBoundary-before_ascii text at l (let b : is_word_byte (get_or text at 0) ≡ true = grind arith in word-byte-ascii (get_or text at 0) b))
word-boundary text at (suc n) u l h e w =
    let p = prefix_len_passes is_word_byte (drop at text) n 0 (omega (arith, e)) in
    let a : at + suc n ≡ at + n + 1 = omega arith in
    rw a (IsCharBoundary-after_ascii text (at + n) u (omega arith) (word-byte-ascii (get_or text (at + n) 0) (rw get_or-drop at p)))

-- ---- between quotes

-- the bytes up to and with the closing quote
abbrev pub IsEnclosed : ℕ → Text → Option (Text × ℕ) → Type 0
IsEnclosed q z None = Unit {0}
IsEnclosed q z (Some p) = take p.1 z ≡ doubled q p.0 ++ q ∷ []

same : (a b : ℕ) → (a == b) ≡ true → a ≡ b
same a b h = grind (arith, nat_tests)

itself : (q : ℕ) → (q == q) ≡ true
itself q = grind (arith, nat_tests)

plain-more : (q c : ℕ) (z : Text) (o : Option (Text × ℕ)) → (c == q) ≡ false → IsEnclosed q z o → IsEnclosed q (c ∷ z) (option_map (λ p. (c ∷ p.0, p.1 + 1)) o)
plain-more q c z None e h = tt
plain-more q c z (Some p) e h = let n : p.1 + 1 ≡ suc p.1 = omega arith in rw (n, e) (ap (λ (l : Text). c ∷ l) h)

double-more : (q c d : ℕ) (z : Text) (o : Option (Text × ℕ)) → c ≡ q → d ≡ q → IsEnclosed q z o → IsEnclosed q (c ∷ d ∷ z) (option_map (λ p. (q ∷ p.0, p.1 + 2)) o)
double-more q c d z None e f h = tt
double-more q c d z (Some p) e f h = let n : p.1 + 2 ≡ suc (suc p.1) = omega arith in rw (n, itself q, e, f) (ap (λ (l : Text). q ∷ q ∷ l) h)

one-of : (q c : ℕ) (b : Bool) → (c == q) ≡ b → IsEnclosed q (c ∷ []) (if b then Some ([], 1) else None)
one-of q c true e = rw (same c q e) refl
one-of q c false e = tt

two-of : (q c d : ℕ) (z : Text) (b a : Bool) → (c == q) ≡ b → (d == q) ≡ a → IsEnclosed q z (closing q z) → IsEnclosed q (d ∷ z) (closing q (d ∷ z))
    → IsEnclosed q (c ∷ d ∷ z) (if b then (if a then option_map (λ p. (q ∷ p.0, p.1 + 2)) (closing q z) else Some ([], 1)) else option_map (λ p. (c ∷ p.0, p.1 + 1)) (closing q (d ∷ z)))
two-of q c d z true true e f h k = double-more q c d z (closing q z) (same c q e) (same d q f) h
two-of q c d z true false e f h k = rw (same c q e) refl
two-of q c d z false a e f h k = plain-more q c (d ∷ z) (closing q (d ∷ z)) e k

pub closing-enclosed : (q : ℕ) (z : Text) → IsEnclosed q z (closing q z)
closing-enclosed q [] = tt
closing-enclosed q (c ∷ []) = one-of q c (c == q) refl
closing-enclosed q (c ∷ d ∷ z) = two-of q c d z (c == q) (d == q) refl refl (closing-enclosed q z) (closing-enclosed q (d ∷ z))

-- with the opening quote
enclosed-front : (q : ℕ) (y content : Text) (n : ℕ) → 0 < length y → get_or y 0 0 ≡ q → Some (content, n) ≡ closing q (drop 1 y) → take (n + 1) y ≡ enclosed q content
enclosed-front q [] content n l h e = absurd (omega arith)
enclosed-front q (c ∷ z) content n l h e =
    let k : n + 1 ≡ suc n = omega arith in
    let i : IsEnclosed q z (Some (content, n)) = subst (IsEnclosed q z) (sym e) (closing-enclosed q z) in
    rw (k, h) (ap (λ (t : Text). q ∷ t) i)

pub enclosed-at : (q : ℕ) (text : Text) (at : ℕ) (content : Text) (n : ℕ) → at < length text → get_or text at 0 ≡ q → Some (content, n) ≡ closing q (drop (at + 1) text) → take (n + 1) (drop at text) ≡ enclosed q content
enclosed-at q text at content n l h e =
    enclosed-front q (drop at text) content n (omega (arith, length-drop at text)) (first text at ∙ h) (e ∙ ap (closing q) (sym (drop-drop 1 at text)))

-- ---- a symbol is read from the first two bytes

front-two : (z : Text) (n : ℕ) → n ≤ length z → n ≤ 2 → take n (get_or z 0 0 ∷ get_or z 1 0 ∷ []) ≡ take n z
front-two z zero l h = refl
front-two [] (suc n) l h = absurd (omega arith)
front-two (b ∷ z) (suc zero) l h = refl
front-two (b ∷ []) (suc (suc n)) l h = absurd (omega arith)
front-two (b ∷ c ∷ z) (suc (suc zero)) l h = refl
front-two (b ∷ c ∷ z) (suc (suc (suc n))) l h = absurd (omega arith)

symbol-within : (n b next : ℕ) (z : Text) → next ≡ get_or z 1 0 → 0 < length z → n ≤ (if next == 0 then 1 else 2) → (n ≤ length z) × (n ≤ 2)
symbol-within n b next [] e l h = absurd (omega arith)
symbol-within n b next (c ∷ []) e l h = let w : n ≤ 1 = rw e at h in (w, omega arith)
symbol-within n b next (c ∷ d ∷ z) e l h = let w : n ≤ 2 = grind (arith, nat_tests) in (omega arith, w)

pub symbol-read : (r : Front) (b next : ℕ) (z : Text) → b ≡ get_or z 0 0 → next ≡ get_or z 1 0 → 0 < length z
    → IfOk r (λ l. (0 < l.len) × (l.len ≤ (if next == 0 then 1 else 2))) → IsRead r (b ∷ next ∷ []) → IsRead r z
symbol-read (Ok l) b next z e f p h r = let w = symbol-within l.len b next z f p h.1 in rw (e, f, front-two z l.len w.0 w.1) at r
symbol-read (Err x) b next z e f p h r = tt

-- ---- along the text

pub order-past : (a b : ℕ) (ts : List Token) (at : ℕ) → AreInOrder at ts a → a ≤ b → AreInOrder at ts b
order-past a b [] at h l = omega arith
order-past a b (t ∷ ts) at h l = (h.0, h.1, order-past a b ts t.span.to h.2 l)

pub order-push : (t : Token) (ts : List Token) (at : ℕ) → AreInOrder at ts t.span.from → t.span.from < t.span.to → AreInOrder at (ts ++ t ∷ []) t.span.to
order-push t [] at h l = (h, l, omega arith)
order-push t (s ∷ ts) at h l = (h.0, h.1, order-push t ts s.span.to h.2 l)

pub readings-push : (text : Text) (ts : List Token) (t : Token) → AreReadings text ts → IsReading t.kind (take (t.span.to - t.span.from) (drop t.span.from text)) → AreReadings text (ts ++ t ∷ [])
readings-push text ts t h r = All-append (λ (s : Token). IsReading s.kind (take (s.span.to - s.span.from) (drop s.span.from text))) ts (t ∷ []) h (All-cons (λ (s : Token). IsReading s.kind (take (s.span.to - s.span.from) (drop s.span.from text))) t [] r (λ k d l. absurd (omega arith)))

-- what a number was read as
pub within-largest : (max n value : ℕ) → Some value ≡ decimal_to max n → (value ≡ n) × (n ≤ max)
within-largest max n value e = within-if (nat_le n max) refl e where
  within-if : (b : Bool) → nat_le n max ≡ b → Some value ≡ (if b then Some n else None) → (value ≡ n) × (n ≤ max)
  within-if true t e = (cc, grind (arith, nat_tests))
  within-if false t e = absurd (cc)
