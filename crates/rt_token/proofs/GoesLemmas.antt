-- Steps of the loop over a text.
use Rattle.std.proofs.Common.{◌≡◌, ◌∙◌, ◌<◌, ◌≤◌, ◌+◌, ◌-◌, sym, ap, ℕ, zero, suc, List, [], ◌∷◌, ◌++◌, length, drop, refl, Result, Ok, Err, Some, None, append_assoc, arith, length-drop, drop-drop, true, false, Bool}
use Rattle.std.specs.Prelude.{MatchBool}
use Rattle.std.proofs.lemmas.List.{append-nil, drop_all}
use Rattle.rt_value.specs.Gives.{Gives}
use Rattle.rt_token.specs.declared.token.Token.{Token}
use Rattle.rt_token.specs.declared.token.TokenKind.{TokenKind}
use Rattle.rt_token.specs.declared.fault.LexFault.{LexFault}
use Rattle.rt_token.specs.declared.lexeme.Lexeme.{Lexeme}
use Rattle.rt_token.specs.Lexed.{Text, Tokens, before, front, go_on, lexed_from}
use Rattle.rt_token.specs.Layout.{is_memory}

abbrev pub with_front : List Token → Tokens → Tokens
with_front found (Ok more) = Ok (found ++ more)
with_front found (Err e) = Err e

-- the tokens so far and those of the rest are those of the text
pub record LexGoes (found : List Token) (at : ℕ) (text : Text) : Type 0 where
  pub within : at ≤ length text
  pub so_far : with_front found (lexed_from 0 at (drop at text)) ≡ lexed_from 0 0 text

front-more : (found : List Token) (t : Token) (r : Tokens) → with_front found (before t r) ≡ with_front (found ++ t ∷ []) r
front-more found t (Ok ts) = ap (λ (l : List Token). Ok l) (sym (append_assoc found (t ∷ []) ts))
front-more found t (Err e) = refl

-- bytes that belong to what was read before are passed over
pub inside-drop : (n at : ℕ) (z : Text) → n ≤ length z → lexed_from n at z ≡ lexed_from 0 (at + n) (drop n z)
unfolding lexed_from
inside-drop zero at z h = ap (λ (k : ℕ). lexed_from 0 k z) (omega arith)
inside-drop (suc n) at [] h = absurd (omega arith)
inside-drop (suc n) at (b ∷ z) h = inside-drop n (at + 1) z (omega arith) ∙ ap (λ (k : ℕ). lexed_from 0 k (drop n z)) (omega arith)

-- a lexeme at the front, and the rest after it
turn : (at n : ℕ) (z : Text) → 0 < n → n ≤ length z → lexed_from (n - 1) (at + 1) (drop 1 z) ≡ lexed_from 0 (at + n) (drop n z)
turn at n [] p h = absurd (omega arith)
turn at zero (b ∷ z) p h = absurd (omega arith)
turn at (suc n) (b ∷ z) p h = let m : suc n - 1 ≡ n = omega arith in rw m (inside-drop n (at + 1) z (omega arith) ∙ ap (λ (k : ℕ). lexed_from 0 k (drop n z)) (omega arith))

pub step : (at : ℕ) (z : Text) (l : Lexeme) → front at z ≡ Ok l → 0 < l.len → l.len ≤ length z → lexed_from 0 at z ≡ go_on at l.kind l.len (lexed_from 0 (at + l.len) (drop l.len z))
unfolding lexed_from
step at [] l e p h = absurd (omega arith)
step at (b ∷ z) l e p h = rw e (ap (go_on at l.kind l.len) (turn at l.len (b ∷ z) p h))

fault : (at : ℕ) (z : Text) (e : LexFault) → 0 < length z → front at z ≡ Err e → lexed_from 0 at z ≡ Err e
unfolding lexed_from
fault at [] e p h = absurd (omega arith)
fault at (b ∷ z) e p h = rw h refl

module _ (found : List Token) (at : ℕ) (text : Text) where
  pub goes-on : (l : Lexeme) → LexGoes found at text → front at (drop at text) ≡ Ok l → 0 < l.len → at + l.len ≤ length text
      → with_front found (go_on at l.kind l.len (lexed_from 0 (at + l.len) (drop (at + l.len) text))) ≡ lexed_from 0 0 text
  goes-on l g e p h =
      let d : drop (at + l.len) text ≡ drop l.len (drop at text) = sym (drop-drop l.len at text) in
      let s = step at (drop at text) l e p (omega (arith, length-drop at text)) in
      rw (d, ← s) g.so_far

  pub goes-pass : (n : ℕ) → at + n ≤ length text → with_front found (go_on at None n (lexed_from 0 (at + n) (drop (at + n) text))) ≡ lexed_from 0 0 text → LexGoes found (at + n) text
  goes-pass n h e = record { within = h; so_far = e }

  pub goes-give : (k : TokenKind) (n : ℕ) → at + n ≤ length text → with_front found (go_on at (Some k) n (lexed_from 0 (at + n) (drop (at + n) text))) ≡ lexed_from 0 0 text
      → LexGoes (found ++ record { kind = k; span = record { from = at; to = at + n } } ∷ []) (at + n) text
  goes-give k n h e = record { within = h; so_far = sym (front-more found _ _) ∙ e }

  pub goes-fail : (e : LexFault) → LexGoes found at text → at < length text → front at (drop at text) ≡ Err e → lexed_from 0 0 text ≡ Err e
  goes-fail e g p h = let f = fault at (drop at text) e (omega (arith, length-drop at text)) h in sym g.so_far ∙ rw f refl

  end-of : (z : Text) → z ≡ [] → with_front found (lexed_from 0 at z) ≡ Ok found
  unfolding lexed_from
  end-of z e = rw e (rw append-nil refl)

  pub goes-end : LexGoes found at text → length text ≤ at → lexed_from 0 0 text ≡ Ok found
  goes-end g h = sym g.so_far ∙ end-of (drop at text) (drop_all at text h)

passes-if : (b : Bool) (A B : Type 0) → (A → B) → MatchBool b (Unit {0}) A → MatchBool b (Unit {0}) B
passes-if true A B f h = tt
passes-if false A B f h = f h

-- an error of a part is the whole's, where the definitions agree
pub passes : (e : LexFault) {T U : Type 0} (part : Result T LexFault) (whole : Result U LexFault) → (part ≡ Err e → whole ≡ Err e) → Gives {T = T} is_memory (Err e) part → Gives {T = U} is_memory (Err e) whole
passes e part whole f h = passes-if (is_memory e) (part ≡ Err e) (whole ≡ Err e) f h
