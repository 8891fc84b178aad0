-- Readers of lists: what they keep of a step's law.
use Rattle.std.proofs.Common.{◌≡◌, ◌∙◌, ◌≤◌, ◌<◌, ◌+◌, ap, ℕ, zero, suc, List, [], ◌∷◌, ◌++◌, length, refl, Bool, true, false, Option, Some, None, append_assoc, cond, arith, length-append}
use Rattle.std.specs.List.{flat_map}
use Rattle.rt_token.specs.declared.fixed.Fixed.{Fixed}
use Rattle.rt_token.specs.declared.fixed.Fixed.TheVariants as fixed
use Rattle.rt_token.specs.declared.terminal.Terminal.TheVariants as terminal
use Rattle.rt_token.specs.Terminals.{Kinds, after, code, front}
use Rattle.rt_token.specs.Readers.{Parser, Step, after_from, list_of, many, step_after, step_when}
use Rattle.rt_token.proofs.ManyLemmas.{Each, many-sound, some-is}
use Rattle.rt_token.proofs.FrontLemmas.{Passed, after-fixed, after-none, after-sound, passed-cons, passed-list}
use Rattle.rt_token.proofs.CalmLemmas.{IsCalm}
use Rattle.rt_token.proofs.Laws.{Lawful}

-- a step keeps to a spelling, may be followed by itself, and stops at a terminal of code `high` or
-- more
pub record StepLaw {A : Type 0} (strict : Bool) (step : Step A) (spell : A → Kinds) (n low high : ℕ) : Type 0 where
  pub sound : (ks : Kinds) (x : A) (rest : Kinds) → step ks ≡ Some (Some (x, rest)) → ks ≡ spell x ++ rest
  pub reads : (x : A) (rest : Kinds) → length (spell x) < n → low ≤ front rest → step (spell x ++ rest) ≡ Some (Some (x, rest))
  pub passed : strict ≡ true → (x : A) → length (spell x) < n → Passed (spell x)
  pub calm : strict ≡ true → (x : A) (rest : Kinds) → length (spell x) < n → low ≤ front rest → IsCalm rest → IsCalm (spell x ++ rest)
  pub some : (x : A) → 0 < length (spell x)
  pub starts : (x : A) (rest : Kinds) → low ≤ front (spell x ++ rest)
  pub stops : (rest : Kinds) → high ≤ front rest → step rest ≡ None
  pub above : low ≤ high

pub follows : {A : Type 0} (spell : A → Kinds) (low : ℕ) → ((x : A) (rest : Kinds) → low ≤ front (spell x ++ rest)) → (xs : List A) (rest : Kinds) → low ≤ front rest → low ≤ front (flat_map spell xs ++ rest)
follows spell low g [] rest f = f
follows spell low g (y ∷ ys) rest f = rw (append_assoc (spell y) (flat_map spell ys) rest) (g y (flat_map spell ys ++ rest))

-- a list is read up to where the step stops
pub many-reads : {A : Type 0} {c : Bool} (step : Step A) (spell : A → Kinds) (n low high : ℕ) → StepLaw c step spell n low high
    → (xs : List A) (turns : ℕ) (rest : Kinds) → length (flat_map spell xs) < n → length (flat_map spell xs) ≤ turns → step rest ≡ None → low ≤ front rest → many step turns (flat_map spell xs ++ rest) ≡ Some (xs, rest)
unfolding many
many-reads step spell n low high s [] zero rest l k e f = refl
many-reads step spell n low high s [] (suc turns) rest l k e f = rw e refl
many-reads step spell n low high s (x ∷ xs) zero rest l k e f = absurd (omega (arith, s.some x, length-append (spell x) (flat_map spell xs)))
many-reads step spell n low high s (x ∷ xs) (suc turns) rest l k e f =
    let a = length-append (spell x) (flat_map spell xs) in
    let one = s.reads x (flat_map spell xs ++ rest) (omega arith) (follows spell low s.starts xs rest f) in
    let more = many-reads step spell n low high s xs turns rest (omega arith) (omega (arith, s.some x)) e f in
    rw (append_assoc (spell x) (flat_map spell xs) rest, one, more) refl

pub list-reads : {A : Type 0} {c : Bool} (step : Step A) (spell : A → Kinds) (n low high : ℕ) → StepLaw c step spell n low high
    → (xs : List A) (rest : Kinds) → length (flat_map spell xs) < n → step rest ≡ None → low ≤ front rest → list_of step (flat_map spell xs ++ rest) ≡ Some (xs, rest)
list-reads step spell n low high s xs rest l e f = many-reads step spell n low high s xs (length (flat_map spell xs ++ rest)) rest l (omega (arith, length-append (flat_map spell xs) rest)) e f

pub list-calm : {A : Type 0} {c : Bool} → c ≡ true → (step : Step A) (spell : A → Kinds) (n low high : ℕ) → StepLaw c step spell n low high
    → (xs : List A) (rest : Kinds) → length (flat_map spell xs) < n → low ≤ front rest → IsCalm rest → IsCalm (flat_map spell xs ++ rest)
list-calm s step spell n low high law [] rest l f k = k
list-calm s step spell n low high law (x ∷ xs) rest l f k =
    let a = length-append (spell x) (flat_map spell xs) in
    let more = list-calm s step spell n low high law xs rest (omega arith) f k in
    rw (append_assoc (spell x) (flat_map spell xs) rest) (law.calm s x (flat_map spell xs ++ rest) (omega arith) (follows spell low law.starts xs rest f) more)

each-passed : {A : Type 0} (spell : A → Kinds) (n : ℕ) → ((x : A) → length (spell x) < n → Passed (spell x)) → (xs : List A) → length (flat_map spell xs) < n → Each (λ x. Passed (spell x)) xs
each-passed spell n p [] h = tt
each-passed spell n p (x ∷ xs) h =
    let a = length-append (spell x) (flat_map spell xs) in
    (p x (omega arith), each-passed spell n p xs (omega arith))

pub list-law : {A : Type 0} {c : Bool} (step : Step A) (spell : A → Kinds) (n low high : ℕ) → StepLaw c step spell n low high → Lawful c (list_of step) (flat_map spell) n high
list-law step spell n low high law = record {
  sound = λ ks q e. many-sound step spell (record { spelled = law.sound }) (length ks) ks q e;
  reads = λ xs rest h f. let above = law.above in list-reads step spell n low high law xs rest h (law.stops rest f) (omega arith);
  passed = λ s xs h. passed-list spell xs (each-passed spell n (law.passed s) xs h);
  calm = λ s xs rest h f k. let above = law.above in list-calm s step spell n low high law xs rest h (omega arith) k;
}

pub after-law : {A : Type 0} {c : Bool} (f : Fixed) (p : Parser A) (sp : A → Kinds) (n low : ℕ) → Lawful c p sp n low → (code f ≡ code fixed.OpenParen → ⊥) → (code f ≡ code fixed.CloseParen → ⊥) → low ≤ code f
    → StepLaw c (step_after f p) (λ x. terminal.Fixed f ∷ sp x) n low (code f + 1)
after-law {A = A} f p sp n low l x y above = record {
  sound = λ ks z rest e. sound-by (after f ks) ks z rest refl e;
  reads = λ z rest h g. rw (after-fixed f (sp z ++ rest), l.reads z rest (omega arith) g) refl;
  passed = λ s z h. passed-cons (terminal.Fixed f) (sp z) x y (l.passed s z (omega arith));
  calm = λ s z rest h g k. l.calm s z rest (omega arith) g k;
  some = λ z. omega arith;
  starts = λ z rest. above;
  stops = λ rest g. rw (after-none f rest (λ e. omega arith)) refl;
  above = omega arith;
}
  where
    sound-by : (o : Option Kinds) (ks : Kinds) (z : A) (rest : Kinds) → after f ks ≡ o → after_from p o ≡ Some (Some (z, rest)) → ks ≡ terminal.Fixed f ∷ (sp z ++ rest)
    sound-by None ks z rest a e = cc e
    sound-by (Some r) ks z rest a e = after-sound f ks r a ∙ ap (λ (t : Kinds). terminal.Fixed f ∷ t) (l.sound r (z, rest) (some-is _ _ e))

pub when-law : {A : Type 0} {c : Bool} (test : Kinds → Bool) (p : Parser A) (sp : A → Kinds) (n low high : ℕ) → Lawful c p sp n low
    → ((x : A) → 0 < length (sp x)) → ((x : A) (rest : Kinds) → low ≤ front (sp x ++ rest)) → ((x : A) (rest : Kinds) → test (sp x ++ rest) ≡ true)
    → ((rest : Kinds) → high ≤ front rest → test rest ≡ false) → low ≤ high → StepLaw c (step_when test p) sp n low high
when-law {A = A} test p sp n low high l some front_of there ends above = record {
  sound = λ ks x rest e. sound-by (test ks) ks x rest e;
  reads = λ x rest h g. rw (there x rest, l.reads x rest h g) refl;
  passed = l.passed;
  calm = l.calm;
  some = some;
  starts = front_of;
  stops = λ rest g. rw (ends rest g) refl;
  above = above;
}
  where
    sound-by : (b : Bool) (ks : Kinds) (x : A) (rest : Kinds) → cond b (Some (p ks)) None ≡ Some (Some (x, rest)) → ks ≡ sp x ++ rest
    sound-by true ks x rest e = l.sound ks (x, rest) (some-is _ _ e)
    sound-by false ks x rest e = cc e

-- what a step leaves
pub step-shorter : {A : Type 0} {c : Bool} (step : Step A) (sp : A → Kinds) (n low high : ℕ) → StepLaw c step sp n low high → (ks : Kinds) (x : A) (rest : Kinds) → step ks ≡ Some (Some (x, rest)) → length rest < length ks
step-shorter step sp n low high l ks x rest e = omega (arith, l.some x, ap length (l.sound ks x rest e), length-append (sp x) rest)
