-- The content of a text or a quoted name, run by run: bytes without a quote, then a quote or two.
use Rattle.std.proofs.Common.{inl, inr, ◌≡◌, ◌<◌, ◌+◌, ◌-◌, ◌≤◌, ◌∙◌, ℕ, suc, [], ◌∷◌, ◌++◌, length, refl, Option, Some, None, arith, true, false, Bool, take, drop, get_or, ap, sym, append_assoc, get_or-drop, length-drop, drop-drop}
use Rattle.std.specs.Prelude.{option_map, not, ◌==◌}
use Rattle.std.specs.List.{prefix_len}
use Rattle.std.specs.Str.{IsCharBoundary, IsUtf8}
use Rattle.std.proofs.lemmas.Bool.Decides.{nat_tests}
use Rattle.std.proofs.lemmas.Str.{IsCharBoundary-after_ascii, IsCharBoundary-before_ascii, IsCharBoundary-end}
use Rattle.std.proofs.lemmas.List.Sums.{prefix_len_stops}
use Rattle.std.proofs.lemmas.List.{append-nil, drop_all, get_or_past}
use Rattle.std.proofs.Math.Nat.{eq-or-lt_of_le, lt_of_not-le}
use Rattle.rt_token.specs.Lexed.{Text, closing}

abbrev pub Read : Type 0
Read = Option (Text × ℕ)

-- `content` was read before, from so many bytes
abbrev pub with_content : Text → ℕ → Read → Read
with_content content n o = option_map (λ p. (content ++ p.0, p.1 + n)) o

with-none : (o : Read) → o ≡ with_content [] 0 o
with-none None = refl
with-none (Some p) = ap (λ (k : ℕ). Some (p.0, k)) (omega arith)

with-byte : (c : ℕ) (xs : Text) (m n : ℕ) (o : Read) → n ≡ 1 + m → option_map (λ p. (c ∷ p.0, p.1 + 1)) (with_content xs m o) ≡ with_content (c ∷ xs) n o
with-byte c xs m n None e = refl
with-byte c xs m n (Some p) e = ap (λ (k : ℕ). Some (c ∷ xs ++ p.0, k)) (omega arith)

with-more : (xs ys : Text) (m n k : ℕ) (o : Read) → k ≡ m + n → with_content xs m (with_content ys n o) ≡ with_content (xs ++ ys) k o
with-more xs ys m n k None e = refl
with-more xs ys m n k (Some p) e = let a : p.1 + n + m ≡ p.1 + k = omega arith in rw (append_assoc xs ys p.0, a) refl

abbrev pub run : ℕ → Text → ℕ
run q z = prefix_len (λ c. not (c == q)) z

run-of : (q c : ℕ) (y z : Text) (b : Bool) → (c == q) ≡ b → y ≡ c ∷ z
    → (b ≡ false → closing q y ≡ option_map (λ p. (c ∷ p.0, p.1 + 1)) (closing q z))
    → closing q z ≡ with_content (take (run q z) z) (run q z) (closing q (drop (run q z) z))
    → closing q y ≡ with_content (take (run q y) y) (run q y) (closing q (drop (run q y) y))
run-of q c y z true e f s h = rw (f, e) (with-none (closing q (c ∷ z)))
run-of q c y z false e f s h =
    let n : 1 + run q z ≡ suc (run q z) = omega arith in
    let s' = rw f at (s refl) in
    rw (f, e, n) (s' ∙ ap (option_map (λ (p : Text × ℕ). (c ∷ p.0, p.1 + 1))) h ∙ with-byte c (take (run q z) z) (run q z) (suc (run q z)) (closing q (drop (run q z) z)) (omega arith))

-- the bytes before the first quote are content
pub closing-run : (q : ℕ) (z : Text) → closing q z ≡ with_content (take (run q z) z) (run q z) (closing q (drop (run q z) z))
closing-run q [] = refl
closing-run q (c ∷ []) = run-of q c (c ∷ []) [] (c == q) refl refl (λ e. rw e refl) refl
closing-run q (c ∷ d ∷ z) = run-of q c (c ∷ d ∷ z) (d ∷ z) (c == q) refl refl (λ e. rw e refl) (closing-run q (d ∷ z))

stop-of : (q : ℕ) (y : Text) → 0 < length y → get_or y 0 0 ≡ q → (get_or y 1 0 ≡ q → ⊥) → closing q y ≡ Some ([], 1)
stop-of q [] l e h = absurd (omega arith)
stop-of q (c ∷ []) l e h = let t : (c == q) ≡ true = grind (arith, nat_tests) in rw t refl
stop-of q (c ∷ d ∷ z) l e h =
    let t : (c == q) ≡ true = grind (arith, nat_tests) in
    let f : (d == q) ≡ false = grind (arith, nat_tests) in
    rw (t, f) refl

double-of : (q : ℕ) (y : Text) → 1 < length y → get_or y 0 0 ≡ q → get_or y 1 0 ≡ q → closing q y ≡ with_content (q ∷ []) 2 (closing q (drop 2 y))
double-of q [] l e h = absurd (omega arith)
double-of q (c ∷ []) l e h = absurd (omega arith)
double-of q (c ∷ d ∷ z) l e h =
    let t : (c == q) ≡ true = grind (arith, nat_tests) in
    let u : (d == q) ≡ true = grind (arith, nat_tests) in
    rw (t, u) refl

quote-at : (q b : ℕ) → not (b == q) ≡ false → b ≡ q
quote-at q b h = grind (arith, nat_tests)

-- the first byte after the run is a quote
pub run-stops : (q : ℕ) (z : Text) → run q z < length z → get_or z (run q z) 0 ≡ q
run-stops q z h = quote-at q (get_or z (run q z) 0) (prefix_len_stops (λ c. not (c == q)) z 0 h)

run-stops-at : (q n : ℕ) (z : Text) → n ≡ run q z → n < length z → get_or z n 0 ≡ q
run-stops-at q n z is h = rw is (run-stops q z (omega arith))

module _ (q n k : ℕ) (content z : Text) (whole : Read) (is : n ≡ run q z) (was : with_content content k (closing q z) ≡ whole) where
  -- no quote is left
  pub runs-open : n ≡ length z → whole ≡ None
  runs-open h = let d : drop (run q z) z ≡ [] = drop_all (run q z) z (omega arith) in sym was ∙ rw (closing-run q z, d) refl

  run-then : with_content (content ++ take n z) (k + n) (closing q (drop n z)) ≡ whole
  run-then = rw is (sym (with-more content (take (run q z) z) k (run q z) (k + run q z) (closing q (drop (run q z) z)) refl) ∙ rw (← closing-run q z) was)

  at_run : n < length z → get_or (drop n z) 0 0 ≡ q
  at_run l = let s : get_or z (run q z) 0 ≡ q = run-stops q z (omega arith) in let m : n + 0 ≡ run q z = omega arith in rw (get_or-drop n z 0 0, m) s

  -- a quote alone is the end
  pub runs-end : n < length z → (get_or z (n + 1) 0 ≡ q → ⊥) → whole ≡ Some (content ++ take n z, n + 1 + k)
  runs-end l h =
      let s : closing q (drop n z) ≡ Some ([], 1) = stop-of q (drop n z) (omega (arith, length-drop n z)) (at_run l) (λ e. h (sym (get_or-drop n z 1 0) ∙ e)) in
      let m : 1 + (k + n) ≡ n + 1 + k = omega arith in
      sym (rw s at run-then) ∙ rw (append-nil (content ++ take n z), m) refl

  -- a doubled quote is a quote of the content
  pub runs-double : n + 1 < length z → get_or z (n + 1) 0 ≡ q → with_content ((content ++ take n z) ++ q ∷ []) (k + n + 2) (closing q (drop (n + 2) z)) ≡ whole
  runs-double l h =
      let two : closing q (drop n z) ≡ with_content (q ∷ []) 2 (closing q (drop 2 (drop n z))) = double-of q (drop n z) (omega (arith, length-drop n z)) (at_run (omega arith)) (get_or-drop n z 1 0 ∙ h) in
      let d : drop 2 (drop n z) ≡ drop (n + 2) z = drop-drop 2 n z in
      rw (← with-more (content ++ take n z) (q ∷ []) (k + n) 2 (k + n + 2) (closing q (drop (n + 2) z)) refl, ← d, ← two) run-then

-- a quote past the end can't be, since a byte there counts as 0
there : (q i : ℕ) (xs : Text) → 0 < q → get_or xs i 0 ≡ q → i < length xs
there q i xs p e = lt_of_not-le (λ l. let z : get_or xs i 0 ≡ 0 = get_or_past xs i 0 l in absurd (omega arith))

module _ (q from start n : ℕ) (content text : Text) (is : n ≡ run q (drop start text)) (was : with_content content (start - from) (closing q (drop start text)) ≡ closing q (drop from text))
    (order : from ≤ start) (within : start ≤ length text) where
  pub content-open : start + n ≡ length text → None ≡ closing q (drop from text)
  content-open e = sym (runs-open q n (start - from) content (drop start text) (closing q (drop from text)) is was (omega (arith, length-drop start text)))

  pub content-end : start + n < length text → (get_or text (start + n + 1) 0 ≡ q → ⊥) → Some (content ++ take n (drop start text), start + n + 1 - from) ≡ closing q (drop from text)
  content-end l h =
      let a : start + (n + 1) ≡ start + n + 1 = omega arith in
      let k : n + 1 + (start - from) ≡ start + n + 1 - from = omega arith in
      let e = runs-end q n (start - from) content (drop start text) (closing q (drop from text)) is was (omega (arith, length-drop start text)) (λ w. h (rw (get_or-drop start text (n + 1) 0, a) at w)) in
      sym (rw k at e)

  pub content-double : 0 < q → get_or text (start + n + 1) 0 ≡ q
      → with_content ((content ++ take n (drop start text)) ++ q ∷ []) (start + n + 2 - from) (closing q (drop (start + n + 2) text)) ≡ closing q (drop from text)
  content-double p h =
      let a : start + (n + 1) ≡ start + n + 1 = omega arith in
      let t = there q (start + n + 1) text p h in
      let k : start - from + n + 2 ≡ start + n + 2 - from = omega arith in
      let b : start + (n + 2) ≡ start + n + 2 = omega arith in
      let d : drop (n + 2) (drop start text) ≡ drop (start + n + 2) text = drop-drop (n + 2) start text ∙ ap (λ (i : ℕ). drop i text) (omega arith) in
      let e = runs-double q n (start - from) content (drop start text) (closing q (drop from text)) is was (omega (arith, length-drop start text)) (get_or-drop start text (n + 1) 0 ∙ rw a h) in
      rw (d, k) at e

  pub run-boundary : q < 128 → start + n ≤ length text → IsCharBoundary text (start + n)
  run-boundary a l = elim (eq-or-lt_of_le l) [
    | inl e ↦ rw e (IsCharBoundary-end text)
    | inr e ↦ IsCharBoundary-before_ascii text (start + n) e (omega (arith, run-stops-at q n (drop start text) is (omega (arith, length-drop start text)), get_or-drop start text n 0))
  ]

  pub double-boundary : IsUtf8 text → 0 < q → q < 128 → get_or text (start + n + 1) 0 ≡ q → IsCharBoundary text (start + n + 2)
  double-boundary u p a h =
      let m : start + n + 1 + 1 ≡ start + n + 2 = omega arith in
      rw (← m) (IsCharBoundary-after_ascii text (start + n + 1) u (there q (start + n + 1) text p h) (omega (arith, h)))
