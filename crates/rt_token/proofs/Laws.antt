-- What each way to put readers together keeps.
use Rattle.std.proofs.Common.{◌≡◌, ◌∙◌, ◌≤◌, ◌<◌, ◌+◌, sym, ap, subst, ℕ, [], ◌∷◌, ◌++◌, length, refl, Bool, true, false, Option, Some, None, append_assoc, cond, arith, length-append}
use Rattle.std.specs.Prelude.{replicate}
use Rattle.rt_token.specs.declared.fixed.Fixed.{Fixed}
use Rattle.rt_token.specs.declared.fixed.Fixed.TheVariants as fixed
use Rattle.rt_token.specs.declared.terminal.Terminal.{Terminal}
use Rattle.rt_token.specs.declared.terminal.Terminal.TheVariants as terminal
use Rattle.rt_token.specs.declared.terminal.Name.{Name}
use Rattle.rt_token.specs.Terminals.{Kinds, Word, flag, in_paren, maybe, after, code, counted, front}
use Rattle.rt_token.specs.Readers.{Parser, ◌>>=◌, after_word, alternative, both, done, either, flagged, flagged_from, lead, lead_word, made, no_other, optional, or_else_read, paren, plain_word, read_name, repeated, starts, word_alternative}
use Rattle.rt_token.proofs.ManyLemmas.{bind-some, some-is}
use Rattle.rt_token.proofs.FrontLemmas.{Passed, after-fixed, after-none, after-sound, after-word-sound, counted-sound, counted-whole, passed-append, passed-cons, passed-nil, passed-paren, passed-replicate}
use Rattle.rt_token.proofs.CalmLemmas.{IsCalm, calm-name, calm-replicate}

-- what is read is spelled so
abbrev pub Sound : {A : Type 0} → Parser A → (A → Kinds) → Type 0
Sound {A = A} p spell = (ks : Kinds) (q : A × Kinds) → p ks ≡ Some q → ks ≡ spell q.0 ++ q.1

-- A reader keeps to a spelling. What it reads is spelled so, and a tree of fewer than n terminals
-- is read wherever a terminal of code `low` or more follows it. In a strict grammar its parentheses
-- match, and no name in it comes directly before an opening parenthesis.
pub record Lawful {A : Type 0} (strict : Bool) (p : Parser A) (spell : A → Kinds) (n low : ℕ) : Type 0 where
  pub sound : Sound p spell
  pub reads : (x : A) (rest : Kinds) → length (spell x) < n → low ≤ front rest → p (spell x ++ rest) ≡ Some (x, rest)
  pub passed : strict ≡ true → (x : A) → length (spell x) < n → Passed (spell x)
  pub calm : strict ≡ true → (x : A) (rest : Kinds) → length (spell x) < n → low ≤ front rest → IsCalm rest → IsCalm (spell x ++ rest)

-- of a grammar that isn't strict less is asked
pub loose : {A : Type 0} (p : Parser A) (spell : A → Kinds) (n low : ℕ) → Sound p spell
    → ((x : A) (rest : Kinds) → length (spell x) < n → low ≤ front rest → p (spell x ++ rest) ≡ Some (x, rest)) → Lawful false p spell n low
loose p spell n low s r = record { sound = s; reads = r; passed = λ s x h. cc s; calm = λ s x rest h f k. cc s }

-- a name may be followed by all, but in a strict grammar by no opening parenthesis
pub name-law : (c : Bool) (n low : ℕ) → (c ≡ true → 1 ≤ low) → Lawful c read_name (λ (x : Name). terminal.Name x ∷ []) n low
unfolding read_name
name-law c n low a = record {
  sound = name-sound;
  reads = λ x rest h f. refl;
  passed = λ s x h. passed-cons (terminal.Name x) [] (λ e. omega arith) (λ e. omega arith) passed-nil;
  calm = λ s x rest h f k. let above = a s in calm-name x rest (omega arith) k;
}
  where
    name-sound : (ks : Kinds) (q : Name × Kinds) → read_name ks ≡ Some q → ks ≡ (terminal.Name q.0 ∷ []) ++ q.1
    name-sound [] q e = cc e
    name-sound (terminal.Fixed f ∷ ks) q e = cc e
    name-sound (terminal.Name n ∷ ks) q e = let h : (n, ks) ≡ q = some-is _ _ e in ap (λ (q : Name × Kinds). (terminal.Name q.0 ∷ []) ++ q.1) h
    name-sound (terminal.Number n ∷ ks) q e = cc e
    name-sound (terminal.Str t ∷ ks) q e = cc e

pub done-law : (c : Bool) (n : ℕ) → Lawful c done (λ (x : Unit {0}). []) n 0
done-law c n = record {
  sound = λ ks q e. let h : (tt, ks) ≡ q = some-is _ _ e in ap (λ (q : Unit {0} × Kinds). q.1) h;
  reads = λ x rest h f. refl;
  passed = λ s x h. passed-nil;
  calm = λ s x rest h f k. k;
}

pub lead-word-sound : {A : Type 0} (w : Word) (p : Parser A) (sp : A → Kinds) → Sound p sp → Sound (lead_word w p) (λ x. plain_word w ∷ sp x)
lead-word-sound w p sp s ks q e = let a = bind-some (after_word w ks) p q e in after-word-sound w ks a.0 a.1 ∙ ap (λ (t : Kinds). plain_word w ∷ t) (s a.0 q a.2)

pub both-law : {A B : Type 0} {c : Bool} (p : Parser A) (r : Parser B) (sp : A → Kinds) (sr : B → Kinds) (n low high : ℕ) → Lawful c p sp n low → Lawful c r sr n high
    → ((y : B) (rest : Kinds) → high ≤ front rest → low ≤ front (sr y ++ rest))
    → Lawful c (both p r) (λ (x : A × B). sp x.0 ++ sr x.1) n high
both-law {A = A} {B = B} {c = c} p r sp sr n low high lp lr follows = record {
  sound = λ ks q e.
      let a = bind-some (p ks) _ q e in
      let b = bind-some (r a.0.1) _ q a.2 in
      let h : ((a.0.0, b.0.0), b.0.1) ≡ q = some-is _ _ b.2 in
      subst (λ (q : (A × B) × Kinds). ks ≡ (sp q.0.0 ++ sr q.0.1) ++ q.1) h
      (lp.sound ks a.0 a.1 ∙ ap (λ (t : Kinds). sp a.0.0 ++ t) (lr.sound a.0.1 b.0 b.1) ∙ sym (append_assoc (sp a.0.0) (sr b.0.0) b.0.1));
  reads = λ x rest h f.
      let l = length-append (sp x.0) (sr x.1) in
      let first = lp.reads x.0 (sr x.1 ++ rest) (omega arith) (follows x.1 rest f) in
      let second = lr.reads x.1 rest (omega arith) f in
      rw (append_assoc (sp x.0) (sr x.1) rest, first, second) refl;
  passed = λ s x h.
      let l = length-append (sp x.0) (sr x.1) in
      passed-append (sp x.0) (sr x.1) (lp.passed s x.0 (omega arith)) (lr.passed s x.1 (omega arith));
  calm = λ s x rest h f k.
      let l = length-append (sp x.0) (sr x.1) in
      let second = lr.calm s x.1 rest (omega arith) f k in
      rw (append_assoc (sp x.0) (sr x.1) rest) (lp.calm s x.0 (sr x.1 ++ rest) (omega arith) (follows x.1 rest f) second);
}

pub made-law : {A B : Type 0} {c : Bool} (p : Parser A) (f : A → B) (back : B → A) (sp : A → Kinds) (spell : B → Kinds) (n low : ℕ) → Lawful c p sp n low
    → ((y : B) → f (back y) ≡ y) → ((x : A) → spell (f x) ≡ sp x) → Lawful c (made f p) spell n low
made-law {A = A} {B = B} {c = c} p f back sp spell n low l inv same = record {
  sound = λ ks q e.
      let a = bind-some (p ks) _ q e in
      let h : (f a.0.0, a.0.1) ≡ q = some-is _ _ a.2 in
      subst (λ (q : B × Kinds). ks ≡ spell q.0 ++ q.1) h (l.sound ks a.0 a.1 ∙ ap (λ (t : Kinds). t ++ a.0.1) (sym (same a.0.0)));
  reads = λ y rest. subst (λ (y : B). length (spell y) < n → low ≤ front rest → made f p (spell y ++ rest) ≡ Some (y, rest)) (inv y)
      (λ h g. let one = l.reads (back y) rest (omega (arith, ap length (same (back y)))) g in rw (same (back y), one) refl);
  passed = λ s y. subst (λ (y : B). length (spell y) < n → Passed (spell y)) (inv y)
      (λ h. subst Passed (sym (same (back y))) (l.passed s (back y) (omega (arith, ap length (same (back y))))));
  calm = λ s y rest. subst (λ (y : B). length (spell y) < n → low ≤ front rest → IsCalm rest → IsCalm (spell y ++ rest)) (inv y)
      (λ h g k. let one = l.calm s (back y) rest (omega (arith, ap length (same (back y)))) g k in rw (same (back y)) one);
}

pub lead-law : {A : Type 0} {c : Bool} (f : Fixed) (p : Parser A) (sp : A → Kinds) (n low : ℕ) → Lawful c p sp n low → (code f ≡ code fixed.OpenParen → ⊥) → (code f ≡ code fixed.CloseParen → ⊥)
    → Lawful c (lead f p) (λ x. terminal.Fixed f ∷ sp x) n low
lead-law f p sp n low l x y = record {
  sound = λ ks q e. let a = bind-some (after f ks) p q e in after-sound f ks a.0 a.1 ∙ ap (λ (t : Kinds). terminal.Fixed f ∷ t) (l.sound a.0 q a.2);
  reads = λ x rest h g. rw (after-fixed f (sp x ++ rest)) (l.reads x rest (omega arith) g);
  passed = λ s z h. passed-cons (terminal.Fixed f) (sp z) x y (l.passed s z (omega arith));
  calm = λ s z rest h g k. l.calm s z rest (omega arith) g k;
}

pub paren-law : {A : Type 0} {c : Bool} (p : Parser A) (sp : A → Kinds) (n low : ℕ) → Lawful c p sp n low → low ≤ code fixed.CloseParen → Lawful c (paren p) (λ x. in_paren (sp x)) (n + 2) 0
paren-law {A = A} {c = c} p sp n low l below = record {
  sound = λ ks q e.
      let a = bind-some (after fixed.OpenParen ks) _ q e in
      let b = bind-some (p a.0) _ q a.2 in
      let c = bind-some (after fixed.CloseParen b.0.1) _ q b.2 in
      let h : (b.0.0, c.0) ≡ q = some-is _ _ c.2 in
      subst (λ (q : A × Kinds). ks ≡ in_paren (sp q.0) ++ q.1) h
      (after-sound fixed.OpenParen ks a.0 a.1 ∙ ap (λ (t : Kinds). terminal.Fixed fixed.OpenParen ∷ t) (l.sound a.0 b.0 b.1 ∙ ap (λ (t : Kinds). sp b.0.0 ++ t) (after-sound fixed.CloseParen b.0.1 c.0 c.1) ∙ sym (append_assoc (sp b.0.0) (terminal.Fixed fixed.CloseParen ∷ []) c.0)));
  reads = λ x rest h g.
      let one = l.reads x (terminal.Fixed fixed.CloseParen ∷ rest) (omega (arith, length-append (sp x) (terminal.Fixed fixed.CloseParen ∷ []))) below in
      rw (append_assoc (sp x) (terminal.Fixed fixed.CloseParen ∷ []) rest, one) refl;
  passed = λ s x h. passed-paren (sp x) (l.passed s x (omega (arith, length-append (sp x) (terminal.Fixed fixed.CloseParen ∷ []))));
  calm = λ s x rest h g k.
      let one = l.calm s x (terminal.Fixed fixed.CloseParen ∷ rest) (omega (arith, length-append (sp x) (terminal.Fixed fixed.CloseParen ∷ []))) below k in
      rw (append_assoc (sp x) (terminal.Fixed fixed.CloseParen ∷ []) rest) one;
}

pub flagged-law : {A : Type 0} {c : Bool} (f : Fixed) (p : Parser A) (sp : A → Kinds) (n low : ℕ) → Lawful c p sp n low → (code f ≡ code fixed.OpenParen → ⊥) → (code f ≡ code fixed.CloseParen → ⊥)
    → ((x : A) (rest : Kinds) → low ≤ front rest → front (sp x ++ rest) ≡ code f → ⊥) → Lawful c (flagged f p) (λ (x : Bool × A). flag f x.0 ++ sp x.1) n low
flagged-law {A = A} {c = c} f p sp n low l x y other = record {
  sound = λ ks q e. sound-by (after f ks) ks q refl e;
  reads = λ q rest h g. reads-by q.0 q.1 rest h g;
  passed = λ s q h. passed-by s q.0 q.1 h;
  calm = λ s q rest h g k. calm-by s q.0 q.1 rest h g k;
}
  where
    sound-by : (o : Option Kinds) (ks : Kinds) (q : (Bool × A) × Kinds) → after f ks ≡ o → flagged_from p ks o ≡ Some q → ks ≡ (flag f q.0.0 ++ sp q.0.1) ++ q.1
    sound-by None ks q a e =
        let b = bind-some (p ks) _ q e in
        let h : ((false, b.0.0), b.0.1) ≡ q = some-is _ _ b.2 in
        subst (λ (q : (Bool × A) × Kinds). ks ≡ (flag f q.0.0 ++ sp q.0.1) ++ q.1) h (l.sound ks b.0 b.1)
    sound-by (Some r) ks q a e =
        let b = bind-some (p r) _ q e in
        let h : ((true, b.0.0), b.0.1) ≡ q = some-is _ _ b.2 in
        subst (λ (q : (Bool × A) × Kinds). ks ≡ (flag f q.0.0 ++ sp q.0.1) ++ q.1) h (after-sound f ks r a ∙ ap (λ (t : Kinds). terminal.Fixed f ∷ t) (l.sound r b.0 b.1))

    reads-by : (b : Bool) (z : A) (rest : Kinds) → length (flag f b ++ sp z) < n → low ≤ front rest → flagged f p ((flag f b ++ sp z) ++ rest) ≡ Some ((b, z), rest)
    reads-by false z rest h g = rw (after-none f (sp z ++ rest) (other z rest g), l.reads z rest h g) refl
    reads-by true z rest h g = rw (after-fixed f (sp z ++ rest), l.reads z rest (omega arith) g) refl

    passed-by : c ≡ true → (b : Bool) (z : A) → length (flag f b ++ sp z) < n → Passed (flag f b ++ sp z)
    passed-by s false z h = l.passed s z h
    passed-by s true z h = passed-cons (terminal.Fixed f) (sp z) x y (l.passed s z (omega arith))

    calm-by : c ≡ true → (b : Bool) (z : A) (rest : Kinds) → length (flag f b ++ sp z) < n → low ≤ front rest → IsCalm rest → IsCalm ((flag f b ++ sp z) ++ rest)
    calm-by s false z rest h g k = l.calm s z rest h g k
    calm-by s true z rest h g k = l.calm s z rest (omega arith) g k

pub repeated-law : {A : Type 0} {c : Bool} (f : Fixed) (p : Parser A) (sp : A → Kinds) (n low : ℕ) → Lawful c p sp n low → (code f ≡ code fixed.OpenParen → ⊥) → (code f ≡ code fixed.CloseParen → ⊥)
    → ((x : A) (rest : Kinds) → low ≤ front rest → front (sp x ++ rest) ≡ code f → ⊥) → Lawful c (repeated f p) (λ (x : ℕ × A). replicate x.0 (terminal.Fixed f) ++ sp x.1) n low
repeated-law {A = A} {c = c} f p sp n low l x y other = record {
  sound = λ ks q e.
      let b = bind-some (p (counted f ks).1) _ q e in
      let h : (((counted f ks).0, b.0.0), b.0.1) ≡ q = some-is _ _ b.2 in
      subst (λ (q : (ℕ × A) × Kinds). ks ≡ (replicate q.0.0 (terminal.Fixed f) ++ sp q.0.1) ++ q.1) h
      (counted-sound f ks ∙ ap (λ (t : Kinds). replicate (counted f ks).0 (terminal.Fixed f) ++ t) (l.sound (counted f ks).1 b.0 b.1) ∙ sym (append_assoc (replicate (counted f ks).0 (terminal.Fixed f)) (sp b.0.0) b.0.1));
  reads = λ q rest h g.
      let k = length-append (replicate q.0 (terminal.Fixed f)) (sp q.1) in
      let c = counted-whole f q.0 (sp q.1 ++ rest) (other q.1 rest g) in
      let one = l.reads q.1 rest (omega arith) g in
      rw (append_assoc (replicate q.0 (terminal.Fixed f)) (sp q.1) rest, c, one) refl;
  passed = λ s q h.
      let k = length-append (replicate q.0 (terminal.Fixed f)) (sp q.1) in
      passed-append (replicate q.0 (terminal.Fixed f)) (sp q.1) (passed-replicate f q.0 x y) (l.passed s q.1 (omega arith));
  calm = λ s q rest h g k.
      let e = length-append (replicate q.0 (terminal.Fixed f)) (sp q.1) in
      rw (append_assoc (replicate q.0 (terminal.Fixed f)) (sp q.1) rest) (calm-replicate f q.0 (sp q.1 ++ rest) (l.calm s q.1 rest (omega arith) g k));
}

pub optional-law : {A : Type 0} {c : Bool} (test : Kinds → Bool) (p : Parser A) (sp : A → Kinds) (n low : ℕ) → Lawful c p sp n low
    → ((x : A) (rest : Kinds) → test (sp x ++ rest) ≡ true) → (high : ℕ) → low ≤ high → ((rest : Kinds) → high ≤ front rest → test rest ≡ false)
    → Lawful c (optional test p) (maybe sp) n high
optional-law {A = A} {c = c} test p sp n low l starts high le ends = record {
  sound = λ ks q e. sound-by (test ks) ks q e;
  reads = reads-by;
  passed = passed-by;
  calm = calm-by;
}
  where
    sound-by : (b : Bool) (ks : Kinds) (q : Option A × Kinds) → cond b (p ks >>= λ a. Some (Some a.0, a.1)) (Some (None, ks)) ≡ Some q → ks ≡ maybe sp q.0 ++ q.1
    sound-by true ks q e =
        let b = bind-some (p ks) _ q e in
        let h : (Some b.0.0, b.0.1) ≡ q = some-is _ _ b.2 in
        subst (λ (q : Option A × Kinds). ks ≡ maybe sp q.0 ++ q.1) h (l.sound ks b.0 b.1)
    sound-by false ks q e = let h : (None, ks) ≡ q = some-is _ _ e in subst (λ (q : Option A × Kinds). ks ≡ maybe sp q.0 ++ q.1) h refl

    reads-by : (x : Option A) (rest : Kinds) → length (maybe sp x) < n → high ≤ front rest → optional test p (maybe sp x ++ rest) ≡ Some (x, rest)
    reads-by None rest h g = rw (ends rest g) refl
    reads-by (Some x) rest h g = rw (starts x rest, l.reads x rest h (omega arith)) refl

    passed-by : c ≡ true → (x : Option A) → length (maybe sp x) < n → Passed (maybe sp x)
    passed-by s None h = passed-nil
    passed-by s (Some x) h = l.passed s x h

    calm-by : c ≡ true → (x : Option A) (rest : Kinds) → length (maybe sp x) < n → high ≤ front rest → IsCalm rest → IsCalm (maybe sp x ++ rest)
    calm-by s None rest h g k = k
    calm-by s (Some x) rest h g k = l.calm s x rest h (omega arith) k

-- ---- rules with a choice

pub made-sound : {A B : Type 0} (p : Parser A) (f : A → B) (sp : A → Kinds) (spell : B → Kinds)
    → ((ks : Kinds) (q : A × Kinds) → p ks ≡ Some q → ks ≡ sp q.0 ++ q.1) → ((x : A) → spell (f x) ≡ sp x)
    → (ks : Kinds) (q : B × Kinds) → made f p ks ≡ Some q → ks ≡ spell q.0 ++ q.1
made-sound {B = B} p f sp spell s same ks q e =
    let a = bind-some (p ks) _ q e in
    let h : (f a.0.0, a.0.1) ≡ q = some-is _ _ a.2 in
    subst (λ (q : B × Kinds). ks ≡ spell q.0 ++ q.1) h (s ks a.0 a.1 ∙ ap (λ (t : Kinds). t ++ a.0.1) (sym (same a.0.0)))

either-by : {A : Type 0} (p r : Parser A) (spell : A → Kinds) (ks : Kinds) (q : A × Kinds)
    → (p ks ≡ Some q → ks ≡ spell q.0 ++ q.1) → (r ks ≡ Some q → ks ≡ spell q.0 ++ q.1) → (b : Bool) → cond b (p ks) (r ks) ≡ Some q → ks ≡ spell q.0 ++ q.1
either-by p r spell ks q f g true e = f e
either-by p r spell ks q f g false e = g e

pub either-sound : {A : Type 0} (test : Kinds → Bool) (p r : Parser A) (spell : A → Kinds)
    → ((ks : Kinds) (q : A × Kinds) → p ks ≡ Some q → ks ≡ spell q.0 ++ q.1) → ((ks : Kinds) (q : A × Kinds) → r ks ≡ Some q → ks ≡ spell q.0 ++ q.1)
    → (ks : Kinds) (q : A × Kinds) → either test p r ks ≡ Some q → ks ≡ spell q.0 ++ q.1
either-sound test p r spell f g ks q e = either-by p r spell ks q (f ks q) (g ks q) (test ks) e

-- what is read after a terminal is spelled so with it
abbrev pub SoundAfter : {A : Type 0} → Terminal → Parser A → (A → Kinds) → Type 0
SoundAfter {A = A} k p spell = (ks : Kinds) (q : A × Kinds) → p ks ≡ Some q → k ∷ ks ≡ spell q.0 ++ q.1

pub made-after : {A B : Type 0} (k : Terminal) (p : Parser A) (f : A → B) (sp : A → Kinds) (spell : B → Kinds) → Sound p sp → ((x : A) → spell (f x) ≡ k ∷ sp x) → SoundAfter k (made f p) spell
made-after {B = B} k p f sp spell s same ks q e =
    let a = bind-some (p ks) _ q e in
    let h : (f a.0.0, a.0.1) ≡ q = some-is _ _ a.2 in
    subst (λ (q : B × Kinds). k ∷ ks ≡ spell q.0 ++ q.1) h (ap (λ (t : Kinds). k ∷ t) (s ks a.0 a.1) ∙ ap (λ (t : Kinds). t ++ a.0.1) (sym (same a.0.0)))

or-else-sound : {A : Type 0} (k : Terminal) (p r : Parser A) (spell : A → Kinds) (ks : Kinds) (q : A × Kinds) → SoundAfter k p spell → Sound r spell
    → (o : Option Kinds) → ((rest : Kinds) → o ≡ Some rest → ks ≡ k ∷ rest) → or_else_read p r ks o ≡ Some q → ks ≡ spell q.0 ++ q.1
or-else-sound k p r spell ks q s t None a e = t ks q e
or-else-sound k p r spell ks q s t (Some rest) a e = a rest refl ∙ s rest q e

pub alternative-sound : {A : Type 0} (f : Fixed) (p r : Parser A) (spell : A → Kinds) → SoundAfter (terminal.Fixed f) p spell → Sound r spell → Sound (alternative f p r) spell
alternative-sound f p r spell s t ks q e = or-else-sound (terminal.Fixed f) p r spell ks q s t (after f ks) (after-sound f ks) e

pub word-alternative-sound : {A : Type 0} (w : Word) (p r : Parser A) (spell : A → Kinds) → SoundAfter (plain_word w) p spell → Sound r spell → Sound (word_alternative w p r) spell
word-alternative-sound w p r spell s t ks q e = or-else-sound (plain_word w) p r spell ks q s t (after_word w ks) (after-word-sound w ks) e

pub no-other-sound : {A : Type 0} (spell : A → Kinds) → Sound no_other spell
no-other-sound spell ks q e = cc e

-- ---- weaker laws

pub weaker : {A : Type 0} {c : Bool} (p : Parser A) (sp : A → Kinds) (n low m high : ℕ) → Lawful c p sp n low → m ≤ n → low ≤ high → Lawful c p sp m high
weaker p sp n low m high l a b = record {
  sound = l.sound;
  reads = λ x rest h g. l.reads x rest (omega arith) (omega arith);
  passed = λ s x h. l.passed s x (omega arith);
  calm = λ s x rest h g k. l.calm s x rest (omega arith) (omega arith) k;
}

-- what a lawful reader leaves
pub shorter : {A : Type 0} {c : Bool} (p : Parser A) (sp : A → Kinds) (n low : ℕ) → Lawful c p sp n low → (ks : Kinds) (x : A) (rest : Kinds) → p ks ≡ Some (x, rest) → length rest ≤ length ks
shorter p sp n low l ks x rest e = omega (arith, ap length (l.sound ks (x, rest) e), length-append (sp x) rest)
