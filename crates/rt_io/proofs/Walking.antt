-- One argument of the command, as `clap` walks over it.
use Rattle.std.proofs.Common.{◌≡◌, List, [], ◌∷◌, ℕ, refl, true, false, Option, Some, None, codes}
use Rattle.std.specs.Str.{bytes_eq, chars}
use Rattle.std.specs.Prelude.{slice_get}
use Rattle.clap.specs.Lexer.{long_of, short_of}
use Rattle.clap.specs.Words.{Kinds, Row, Rule, Shape, built}
use Rattle.clap.specs.Walk.{Held, Walk, Waiting, idle, option, positional, settled_rows, walked}
use Rattle.clap.specs.Faults.{settle_fault, turn_fault}
use Rattle.clap.specs.Kinds.{or_else}
use Rattle.clap.proofs.OnLiterals.{clap_on_literals}
use Rattle.clap.specs.declared.error.kind.ErrorKind.TheVariants as kinds
use Rattle.rt_io.specs.App.{command_app}
use Rattle.rt_io.specs.Reading.{Setting, Text, conflicts, name_of, work}

abbrev pub shape : Shape
unfolding command_app
shape = (built command_app).top

abbrev pub our_rules : List Rule
our_rules = shape.rules

-- what `clap` has read and not yet filed
pub data Pending : Type 0 where
  nothing : Pending
  word_of_it : Text → Pending
  value_of_it : Setting → Text → Pending

abbrev pub pending_of : Pending → Option (Text × List Text)
pending_of nothing = None
pending_of (word_of_it v) = Some (codes "words", v ∷ [])
pending_of (value_of_it o v) = Some (name_of o, v ∷ [])

abbrev pub held : List Row → Pending → Held
held rows p = record { rows = rows; pending = pending_of p; skip = 0 }

-- an option without its value
abbrev pub asking : List Row → Setting → Held
asking rows o = record { rows = rows; pending = Some (name_of o, []); skip = 0 }

abbrev pub at_word : Held → Waiting → Walk
at_word h w = record { held = h; waiting = w; position = 1; is_trailing = false; stopped = None }

abbrev pub after_dashes_at : Held → Waiting → Walk
after_dashes_at h w = record { held = h; waiting = w; position = 1; is_trailing = true; stopped = None }

-- what takes the next argument where no option waits for its value
pub data Between : Type 0 where
  anything : Between
  more_words : Between

abbrev pub between : Between → Waiting
between anything = idle
between more_words = positional

abbrev pub settling : List Row → Pending → Kinds
settling rows p = settle_fault our_rules false (held rows p)

abbrev pub filed : List Row → Pending → List Row
filed rows p = settled_rows our_rules (pending_of p) rows

-- a plain argument
module _ (rows : List Row) (word : Text) (l : long_of word ≡ None) (s : short_of word ≡ None) (d : bytes_eq word (45 ∷ 45 ∷ []) ≡ false) where
  pub plain-fault : (p : Pending) (w : Between) → turn_fault shape [] (at_word (held rows p) (between w)) word ≡ settling rows p
  unfolding clap_on_literals command_app
  plain-fault nothing anything = rw (d, l, s) refl
  plain-fault nothing more_words = rw (d, l, s) refl
  plain-fault (word_of_it v) anything = rw (d, l, s) refl
  plain-fault (word_of_it v) more_words = rw (d, l, s) refl
  plain-fault (value_of_it conflicts v) anything = rw (d, l, s) refl
  plain-fault (value_of_it conflicts v) more_words = rw (d, l, s) refl
  plain-fault (value_of_it work v) anything = rw (d, l, s) refl
  plain-fault (value_of_it work v) more_words = rw (d, l, s) refl

  pub plain-walk : (p : Pending) (w : Between) → walked our_rules [] (at_word (held rows p) (between w)) word ≡ at_word (held (filed rows p) (word_of_it word)) positional
  unfolding clap_on_literals command_app
  plain-walk nothing anything = rw (d, l, s) refl
  plain-walk nothing more_words = rw (d, l, s) refl
  plain-walk (word_of_it v) anything = rw (d, l, s) refl
  plain-walk (word_of_it v) more_words = rw (d, l, s) refl
  plain-walk (value_of_it conflicts v) anything = rw (d, l, s) refl
  plain-walk (value_of_it conflicts v) more_words = rw (d, l, s) refl
  plain-walk (value_of_it work v) anything = rw (d, l, s) refl
  plain-walk (value_of_it work v) more_words = rw (d, l, s) refl

  -- the value of an option
  pub value-fault : (o : Setting) → turn_fault shape [] (at_word (asking rows o) (option (name_of o))) word ≡ []
  unfolding clap_on_literals command_app
  value-fault conflicts = rw (d, l, s) refl
  value-fault work = rw (d, l, s) refl

  pub value-walk : (o : Setting) → walked our_rules [] (at_word (asking rows o) (option (name_of o))) word ≡ at_word (held rows (value_of_it o word)) idle
  unfolding clap_on_literals command_app
  value-walk conflicts = rw (d, l, s) refl
  value-walk work = rw (d, l, s) refl

-- `--`
module _ (h : Held) where
  pub dashes-fault : (w : Waiting) → turn_fault shape [] (at_word h w) (45 ∷ 45 ∷ []) ≡ []
  unfolding clap_on_literals command_app
  dashes-fault idle = refl
  dashes-fault (option id) = refl
  dashes-fault positional = refl

  pub dashes-walk : (w : Waiting) → walked our_rules [] (at_word h w) (45 ∷ 45 ∷ []) ≡ after_dashes_at h w
  unfolding clap_on_literals command_app
  dashes-walk idle = refl
  dashes-walk (option id) = refl
  dashes-walk positional = refl

-- an argument after `--`
module _ (rows : List Row) (w : Waiting) (word : Text) where
  pub after-fault : (p : Pending) → turn_fault shape [] (after_dashes_at (held rows p) w) word ≡ settling rows p
  unfolding clap_on_literals command_app
  after-fault nothing = refl
  after-fault (word_of_it v) = refl
  after-fault (value_of_it conflicts v) = refl
  after-fault (value_of_it work v) = refl

  pub after-walk : (p : Pending) → walked our_rules [] (after_dashes_at (held rows p) w) word ≡ after_dashes_at (held (filed rows p) (word_of_it word)) positional
  unfolding clap_on_literals command_app
  after-walk nothing = refl
  after-walk (word_of_it v) = refl
  after-walk (value_of_it conflicts v) = refl
  after-walk (value_of_it work v) = refl

  -- an option that never got its value
  pub after-asking : (o : Setting) → turn_fault shape [] (after_dashes_at (asking rows o) w) word ≡ kinds.InvalidValue ∷ []
  unfolding clap_on_literals command_app
  after-asking conflicts = refl
  after-asking work = refl

pub asking-at-end : (rows : List Row) (o : Setting) → settle_fault our_rules false (asking rows o) ≡ kinds.InvalidValue ∷ []
unfolding clap_on_literals command_app
asking-at-end rows conflicts = refl
asking-at-end rows work = refl

or-nothing : (ks : Kinds) → or_else ks [] ≡ ks
or-nothing [] = refl
or-nothing (k ∷ ks) = refl

module _ (word : Text) (d : bytes_eq word (45 ∷ 45 ∷ []) ≡ false) where
  -- `--conflicts`
  pub option-fault : (o : Setting) → long_of word ≡ Some (name_of o, None) → (h : Held) (w : Waiting)
      → turn_fault shape [] (at_word h w) word ≡ settle_fault our_rules false h
  unfolding clap_on_literals command_app
  option-fault conflicts l h idle = rw (d, l) (or-nothing _)
  option-fault conflicts l h (option id) = rw (d, l) (or-nothing _)
  option-fault conflicts l h positional = rw (d, l) (or-nothing _)
  option-fault work l h idle = rw (d, l) (or-nothing _)
  option-fault work l h (option id) = rw (d, l) (or-nothing _)
  option-fault work l h positional = rw (d, l) (or-nothing _)

  pub option-walk : (o : Setting) → long_of word ≡ Some (name_of o, None) → (rows : List Row) (p : Pending) (w : Between)
      → walked our_rules [] (at_word (held rows p) (between w)) word ≡ at_word (asking (filed rows p) o) (option (name_of o))
  unfolding clap_on_literals command_app
  option-walk conflicts l rows p anything = rw (d, l) refl
  option-walk conflicts l rows p more_words = rw (d, l) refl
  option-walk work l rows p anything = rw (d, l) refl
  option-walk work l rows p more_words = rw (d, l) refl

  -- `--conflicts=TEXT`
  pub setting-fault : (o : Setting) (value : Text) → long_of word ≡ Some (name_of o, Some value) → (rows : List Row) (p : Pending) (w : Between)
      → turn_fault shape [] (at_word (held rows p) (between w)) word ≡ or_else (settling rows p) (settling (filed rows p) (value_of_it o value))
  unfolding clap_on_literals command_app
  setting-fault conflicts value l rows p anything = rw (d, l) (or-nothing _)
  setting-fault conflicts value l rows p more_words = rw (d, l) (or-nothing _)
  setting-fault work value l rows p anything = rw (d, l) (or-nothing _)
  setting-fault work value l rows p more_words = rw (d, l) (or-nothing _)

  pub setting-walk : (o : Setting) (value : Text) → long_of word ≡ Some (name_of o, Some value) → (rows : List Row) (p : Pending) (w : Between)
      → walked our_rules [] (at_word (held rows p) (between w)) word ≡ at_word (held (filed (filed rows p) (value_of_it o value)) nothing) idle
  unfolding clap_on_literals command_app
  setting-walk conflicts value l rows p anything = rw (d, l) refl
  setting-walk conflicts value l rows p more_words = rw (d, l) refl
  setting-walk work value l rows p anything = rw (d, l) refl
  setting-walk work value l rows p more_words = rw (d, l) refl

  -- an option in place of an awaited value
  pub setting-asking : (o : Setting) (value : Text) → long_of word ≡ Some (name_of o, Some value) → (rows : List Row) (asked : Setting)
      → turn_fault shape [] (at_word (asking rows asked) (option (name_of asked))) word ≡ kinds.InvalidValue ∷ []
  unfolding clap_on_literals command_app
  setting-asking conflicts value l rows conflicts = rw (d, l) refl
  setting-asking conflicts value l rows work = rw (d, l) refl
  setting-asking work value l rows conflicts = rw (d, l) refl
  setting-asking work value l rows work = rw (d, l) refl

  -- another long option
  pub long-fault : (name : Text) (value : Option Text) → long_of word ≡ Some (name, value) → bytes_eq (codes "conflicts") name ≡ false → bytes_eq (codes "work") name ≡ false
      → (h : Held) (w : Waiting) → turn_fault shape [] (at_word h w) word ≡ kinds.UnknownArgument ∷ []
  unfolding clap_on_literals command_app
  long-fault name value l n1 n2 h idle = rw (d, l, n1, n2) refl
  long-fault name value l n1 n2 h (option id) = rw (d, l, n1, n2) refl
  long-fault name value l n1 n2 h positional = rw (d, l, n1, n2) refl

  -- a short option
  pub short-fault : (flag : ℕ) (rest : Text) (c : ℕ) → long_of word ≡ None → short_of word ≡ Some (flag ∷ rest) → slice_get (chars (flag ∷ rest)) 0 ≡ Some c
      → (h : Held) → h.skip ≡ 0 → (w : Waiting) → turn_fault shape [] (at_word h w) word ≡ kinds.UnknownArgument ∷ []
  unfolding clap_on_literals command_app
  short-fault flag rest c l s f h k idle = rw (d, l, s, k, f) refl
  short-fault flag rest c l s f h k (option id) = rw (d, l, s, k, f) refl
  short-fault flag rest c l s f h k positional = rw (d, l, s, k, f) refl
