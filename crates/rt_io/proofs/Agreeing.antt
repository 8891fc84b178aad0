-- What we read, and what `clap` reads.
use Rattle.std.proofs.Common.{◌≡◌, ◌∙◌, ◌<◌, List, [], ◌∷◌, ℕ, refl, false, Option, Some, None, sym, subst, length, length-append, arith}
use Rattle.std.specs.Prelude.{fold, All}
use Rattle.std.proofs.lemmas.List.Elements.{All-head, All-tail}
use Rattle.std.specs.Str.{IsUtf8, bytes_eq}
use Rattle.clap.specs.Lexer.{long_of, short_of}
use Rattle.clap.specs.Walk.{Held, Waiting}
use Rattle.clap.specs.Words.{Kinds, Row}
use Rattle.clap.specs.Walk.{Walk, option as option_waits, settled_rows, walked}
use Rattle.clap.specs.Faults.{settle_fault, turn_fault, walk_fault}
use Rattle.clap.specs.Kinds.{or_else}
use Rattle.rt_io.specs.Reading.{Mode, Reading, Setting, Text, Word, after_all, awaiting, conflicts, dashes, name_of, open_to_all, option, plain, read_on, setting, unknown, value_read, with_value, with_word, word_of, word_read, work}
use Rattle.rt_io.proofs.WordKinds.{IsRead, as_dashes, as_long, as_option, as_plain, as_setting, as_short, flag-char, word-read}
use Rattle.rt_io.proofs.Walking.{Between, Pending, after-asking, after-fault, after-walk, after_dashes_at, anything, asking, asking-at-end, at_word, between, dashes-fault, dashes-walk, filed, held, long-fault, more_words, nothing, option-fault, option-walk, our_rules, plain-fault, plain-walk, setting-asking, setting-fault, setting-walk, settling, shape, short-fault, value-fault, value-walk, value_of_it, word_of_it}
use Rattle.rt_io.proofs.Standing.{Files, IsTwice, Stands, StaysTwice, clean, files, put-value, put-word, twice, values_of}

-- ---- an option that was given twice

twice-value : (r : Reading) (o : Setting) (v : Text) → IsTwice r → IsTwice (with_value o v r)
twice-value r o v t = twice-in o t.option t.again
  where
    twice-in : (o q : Setting) → 1 < length (values_of q r) → IsTwice (with_value o v r)
    twice-in conflicts conflicts h = record { option = conflicts; again = simp length-append (omega (arith, h)) }
    twice-in conflicts work h = record { option = work; again = h }
    twice-in work conflicts h = record { option = conflicts; again = h }
    twice-in work work h = record { option = work; again = simp length-append (omega (arith, h)) }

twice-word : (r : Reading) (v : Text) → IsTwice r → IsTwice (with_word v r)
twice-word r v t = twice-in t.option t.again
  where
    twice-in : (q : Setting) → 1 < length (values_of q r) → IsTwice (with_word v r)
    twice-in conflicts h = record { option = conflicts; again = h }
    twice-in work h = record { option = work; again = h }

module _ (rest : List Text) (ih : (m : Mode) (r : Reading) → IsTwice r → StaysTwice (read_on rest m r)) (text : Text) (r : Reading) (t : IsTwice r) where
  twice-open : (k : Word) → StaysTwice (word_read text k r (read_on rest))
  twice-open plain = ih open_to_all (with_word text r) (twice-word r text t)
  twice-open dashes = ih after_all r t
  twice-open (option o) = ih (awaiting o) r t
  twice-open (setting o v) = ih open_to_all (with_value o v r) (twice-value r o v t)
  twice-open unknown = tt

  twice-awaiting : (o : Setting) (k : Word) → StaysTwice (value_read o text k r (read_on rest))
  twice-awaiting o plain = ih open_to_all (with_value o text r) (twice-value r o text t)
  twice-awaiting o dashes = tt
  twice-awaiting o (option q) = tt
  twice-awaiting o (setting q v) = tt
  twice-awaiting o unknown = tt

twice-on : (texts : List Text) (m : Mode) (r : Reading) → IsTwice r → StaysTwice (read_on texts m r)
twice-on [] open_to_all r t = t
twice-on [] (awaiting o) r t = tt
twice-on [] after_all r t = t
twice-on (text ∷ rest) open_to_all r t = twice-open rest (twice-on rest) text r t (word_of text)
twice-on (text ∷ rest) (awaiting o) r t = twice-awaiting rest (twice-on rest) text r t o (word_of text)
twice-on (text ∷ rest) after_all r t = twice-on rest after_all (with_word text r) (twice-word r text t)

-- ---- the walk

-- the errors of the arguments that are left, and what is filed at their end
abbrev pub faults_on : Walk → List Text → Kinds
faults_on w texts = or_else (walk_fault shape [] w texts) (settle_fault our_rules false (fold (walked our_rules []) w texts).held)

abbrev pub rows_on : Walk → List Text → List Row
rows_on w texts = settled_rows our_rules (fold (walked our_rules []) w texts).held.pending (fold (walked our_rules []) w texts).held.rows

pub data Ends (r : Reading) (faults : Kinds) (rows : List Row) : Type 0 where
  fine : faults ≡ [] → Stands r rows nothing → Ends r faults rows
  refused : (faults ≡ [] → ⊥) → IsTwice r → Ends r faults rows

-- what we read agrees with the errors and the rows
abbrev pub Agrees : Option Reading → Kinds → List Row → Type 0
Agrees None faults rows = faults ≡ [] → ⊥
Agrees (Some r) faults rows = Ends r faults rows

abbrev pub AgreesOn : Option Reading → Walk → List Text → Type 0
AgreesOn o w texts = Agrees o (faults_on w texts) (rows_on w texts)

broken : (o : Option Reading) (faults : Kinds) (rows : List Row) → (faults ≡ [] → ⊥) → StaysTwice o → Agrees o faults rows
broken None faults rows n t = n
broken (Some r) faults rows n t = refused n t

or-first : (a b : Kinds) → or_else a b ≡ [] → a ≡ []
or-first [] b e = refl
or-first (k ∷ ks) b e = cc e

or-second : (a b : Kinds) → or_else a b ≡ [] → b ≡ []
or-second [] b e = e
or-second (k ∷ ks) b e = cc e

or-both : (a b : Kinds) → a ≡ [] → b ≡ [] → or_else a b ≡ []
or-both a b e f = rw (e, f) refl

-- an argument without an error
passes : (o : Option Reading) (w next : Walk) (text : Text) (rest : List Text) → turn_fault shape [] w text ≡ [] → walked our_rules [] w text ≡ next
    → AgreesOn o next rest → AgreesOn o w (text ∷ rest)
unfolding walk_fault
passes o w next text rest e is h = subst (λ (k : Kinds). Agrees o (or_else (or_else k (walk_fault shape [] (walked our_rules [] w text) rest)) (settle_fault our_rules false (fold (walked our_rules []) (walked our_rules [] w text) rest).held)) (rows_on (walked our_rules [] w text) rest))
    (sym e) (subst (λ (n : Walk). AgreesOn o n rest) (sym is) h)

-- an argument with an error
stops : (w : Walk) (text : Text) (rest : List Text) → (turn_fault shape [] w text ≡ [] → ⊥) → faults_on w (text ∷ rest) ≡ [] → ⊥
unfolding walk_fault
stops w text rest n e = n (or-first _ _ (or-first _ _ e))

-- where the walk is between two arguments
pub data Place : Type 0 where
  open_at : List Row → Pending → Between → Place
  asking_at : List Row → Setting → Place
  after_at : List Row → Pending → Between → Place

abbrev pub mode_at : Place → Mode
mode_at (open_at rows p w) = open_to_all
mode_at (asking_at rows o) = awaiting o
mode_at (after_at rows p w) = after_all

abbrev pub walk_at : Place → Walk
walk_at (open_at rows p w) = at_word (held rows p) (between w)
walk_at (asking_at rows o) = at_word (asking rows o) (option_waits (name_of o))
walk_at (after_at rows p w) = after_dashes_at (held rows p) (between w)

abbrev pub StandsAt : Reading → Place → Type 0
StandsAt r (open_at rows p w) = Stands r rows p
StandsAt r (asking_at rows o) = Stands r rows nothing
StandsAt r (after_at rows p w) = Stands r rows p

ends : (r : Reading) (rows : List Row) (p : Pending) → Files r rows p → Ends r (settling rows p) (filed rows p)
ends r rows p (clean e h) = fine e h
ends r rows p (twice n t) = refused n t

not-nil : (k : _) (ks : Kinds) (faults : Kinds) → faults ≡ k ∷ ks → faults ≡ [] → ⊥
not-nil k ks faults e f = let bad : [] ≡ k ∷ ks = sym f ∙ e in cc bad

at-end : (s : Place) (r : Reading) → StandsAt r s → AgreesOn (read_on [] (mode_at s) r) (walk_at s) []
unfolding walk_fault
at-end (open_at rows p w) r h = ends r rows p (files r rows p h)
at-end (asking_at rows o) r h = not-nil _ _ _ (asking-at-end rows o)
at-end (after_at rows p w) r h = ends r rows p (files r rows p h)

asking-after : (rows : List Row) (o : Setting) (texts : List Text) → faults_on (after_dashes_at (asking rows o) (option_waits (name_of o))) texts ≡ [] → ⊥
unfolding walk_fault
asking-after rows o [] = not-nil _ _ _ (asking-at-end rows o)
asking-after rows o (text ∷ rest) = stops (after_dashes_at (asking rows o) (option_waits (name_of o))) text rest (not-nil _ _ _ (after-asking rows (option_waits (name_of o)) text o))

module _ (text : Text) (rest : List Text) (valid : IsUtf8 text)
    (ih : (s : Place) (r : Reading) → StandsAt r s → AgreesOn (read_on rest (mode_at s) r) (walk_at s) rest) where
  short-stops : (h : Held) → h.skip ≡ 0 → (w : Waiting) (flag : ℕ) (more : Text) → text ≡ 45 ∷ flag ∷ more → long_of text ≡ None → short_of text ≡ Some (flag ∷ more) → bytes_eq text (45 ∷ 45 ∷ []) ≡ false
      → faults_on (at_word h w) (text ∷ rest) ≡ [] → ⊥
  short-stops h skip w flag more is l s d =
      let c = flag-char flag more (subst IsUtf8 is valid) in
      stops _ text rest (not-nil _ _ _ (short-fault text d flag more c.0 l s c.1 h skip w))

  dashes-pass : (o : Option Reading) (h : Held) (w : Waiting) → text ≡ 45 ∷ 45 ∷ [] → AgreesOn o (after_dashes_at h w) rest → AgreesOn o (at_word h w) (text ∷ rest)
  dashes-pass o h w is a = passes o _ _ text rest
      (subst (λ (x : Text). turn_fault shape [] (at_word h w) x ≡ []) (sym is) (dashes-fault h w))
      (subst (λ (x : Text). walked our_rules [] (at_word h w) x ≡ after_dashes_at h w) (sym is) (dashes-walk h w)) a

  -- any argument
  module _ (rows : List Row) (p : Pending) (w : Between) (r : Reading) where
    plain-open : long_of text ≡ None → short_of text ≡ None → bytes_eq text (45 ∷ 45 ∷ []) ≡ false → Files r rows p
        → AgreesOn (read_on rest open_to_all (with_word text r)) (at_word (held rows p) (between w)) (text ∷ rest)
    plain-open l s d (clean e h) = passes _ _ _ text rest (plain-fault rows text l s d p w ∙ e) (plain-walk rows text l s d p w)
        (ih (open_at (filed rows p) (word_of_it text) more_words) (with_word text r) (put-word r _ text h))
    plain-open l s d (twice n t) = broken _ _ _ (stops _ text rest (λ q. n (sym (plain-fault rows text l s d p w) ∙ q))) (twice-on rest open_to_all _ (twice-word r text t))

    option-open : (o : Setting) → long_of text ≡ Some (name_of o, None) → bytes_eq text (45 ∷ 45 ∷ []) ≡ false → Files r rows p
        → AgreesOn (read_on rest (awaiting o) r) (at_word (held rows p) (between w)) (text ∷ rest)
    option-open o l d (clean e h) = passes _ _ _ text rest (option-fault text d o l (held rows p) (between w) ∙ e) (option-walk text d o l rows p w)
        (ih (asking_at (filed rows p) o) r h)
    option-open o l d (twice n t) = broken _ _ _ (stops _ text rest (λ q. n (sym (option-fault text d o l (held rows p) (between w)) ∙ q))) (twice-on rest (awaiting o) r t)

    setting-filed : (o : Setting) (v : Text) → long_of text ≡ Some (name_of o, Some v) → bytes_eq text (45 ∷ 45 ∷ []) ≡ false → settling rows p ≡ [] → Files (with_value o v r) (filed rows p) (value_of_it o v)
        → AgreesOn (read_on rest open_to_all (with_value o v r)) (at_word (held rows p) (between w)) (text ∷ rest)
    setting-filed o v l d e (clean f h) = passes _ _ _ text rest (setting-fault text d o v l rows p w ∙ or-both _ _ e f) (setting-walk text d o v l rows p w)
        (ih (open_at (filed (filed rows p) (value_of_it o v)) nothing anything) (with_value o v r) h)
    setting-filed o v l d e (twice n t) = broken _ _ _ (stops _ text rest (λ q. n (or-second _ _ (sym (setting-fault text d o v l rows p w) ∙ q)))) (twice-on rest open_to_all _ t)

    setting-open : (o : Setting) (v : Text) → long_of text ≡ Some (name_of o, Some v) → bytes_eq text (45 ∷ 45 ∷ []) ≡ false → Files r rows p
        → AgreesOn (read_on rest open_to_all (with_value o v r)) (at_word (held rows p) (between w)) (text ∷ rest)
    setting-open o v l d (clean e h) = setting-filed o v l d e (files _ _ _ (put-value r _ o v h))
    setting-open o v l d (twice n t) = broken _ _ _ (stops _ text rest (λ q. n (or-first _ _ (sym (setting-fault text d o v l rows p w) ∙ q)))) (twice-on rest open_to_all _ (twice-value r o v t))

    opened : (k : Word) → IsRead text k → Stands r rows p → AgreesOn (word_read text k r (read_on rest)) (at_word (held rows p) (between w)) (text ∷ rest)
    opened k (as_plain x l s d) h = plain-open l s d (files r rows p h)
    opened k (as_dashes x is) h = dashes-pass _ _ _ is (ih (after_at rows p w) r h)
    opened k (as_option x o l d) h = option-open o l d (files r rows p h)
    opened k (as_setting x o v l d) h = setting-open o v l d (files r rows p h)
    opened k (as_long x name v l d n1 n2) h = stops _ text rest (not-nil _ _ _ (long-fault text d name v l n1 n2 (held rows p) (between w)))
    opened k (as_short x flag more is l s d) h = short-stops (held rows p) refl (between w) flag more is l s d

  -- the value of an option
  module _ (rows : List Row) (o : Setting) (r : Reading) where
    awaited : (k : Word) → IsRead text k → Stands r rows nothing → AgreesOn (value_read o text k r (read_on rest)) (at_word (asking rows o) (option_waits (name_of o))) (text ∷ rest)
    awaited k (as_plain x l s d) h = passes _ _ _ text rest (value-fault rows text l s d o) (value-walk rows text l s d o)
        (ih (open_at rows (value_of_it o text) anything) (with_value o text r) (put-value r rows o text h))
    awaited k (as_dashes x is) h = dashes-pass None _ _ is (asking-after rows o rest)
    awaited k (as_option x q l d) h = stops _ text rest (not-nil _ _ _ (option-fault text d q l (asking rows o) (option_waits (name_of o)) ∙ asking-at-end rows o))
    awaited k (as_setting x q v l d) h = stops _ text rest (not-nil _ _ _ (setting-asking text d q v l rows o))
    awaited k (as_long x name v l d n1 n2) h = stops _ text rest (not-nil _ _ _ (long-fault text d name v l n1 n2 (asking rows o) (option_waits (name_of o))))
    awaited k (as_short x flag more is l s d) h = short-stops (asking rows o) refl (option_waits (name_of o)) flag more is l s d

  -- an argument after `--`
  after-open : (rows : List Row) (p : Pending) (w : Between) (r : Reading) → Files r rows p → AgreesOn (read_on rest after_all (with_word text r)) (after_dashes_at (held rows p) (between w)) (text ∷ rest)
  after-open rows p w r (clean e h) = passes _ _ _ text rest (after-fault rows (between w) text p ∙ e) (after-walk rows (between w) text p)
      (ih (after_at (filed rows p) (word_of_it text) more_words) (with_word text r) (put-word r _ text h))
  after-open rows p w r (twice n t) = broken _ _ _ (stops _ text rest (λ q. n (sym (after-fault rows (between w) text p) ∙ q))) (twice-on rest after_all _ (twice-word r text t))

  one-word : (s : Place) (r : Reading) → StandsAt r s → AgreesOn (read_on (text ∷ rest) (mode_at s) r) (walk_at s) (text ∷ rest)
  one-word (open_at rows p w) r h = opened rows p w r (word_of text) (word-read text) h
  one-word (asking_at rows o) r h = awaited rows o r (word_of text) (word-read text) h
  one-word (after_at rows p w) r h = after-open rows p w r (files r rows p h)

pub agrees : (texts : List Text) → All IsUtf8 texts → (s : Place) (r : Reading) → StandsAt r s → AgreesOn (read_on texts (mode_at s) r) (walk_at s) texts
agrees [] valid s r h = at-end s r h
agrees (text ∷ rest) valid s r h = one-word text rest (All-head IsUtf8 text rest valid) (agrees rest (All-tail IsUtf8 text rest valid)) s r h
