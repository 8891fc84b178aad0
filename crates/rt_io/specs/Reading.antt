-- How the arguments of the command are read.
use Rattle.std.specs.Prelude.{ℕ, ◌==◌, List, [], ◌∷◌, ◌++◌, Option, Some, None, codes, if◌then◌else◌}
use Rattle.std.specs.List.{before_first, after_first, list_any}
use Rattle.std.specs.Str.{bytes_eq}
use Rattle.rt_value.specs.Bytes.{equals, minus_sign}

abbrev pub Text : Type 0
Text = List ℕ

-- the options
pub data Setting : Type 0 where
  conflicts : Setting
  work : Setting

abbrev pub name_of : Setting → Text
name_of conflicts = codes "conflicts"
name_of work = codes "work"

-- the plain arguments, and the values that each option was given
pub record Reading : Type 0 where
  pub plain : List Text
  pub conflicts : List Text
  pub work : List Text

abbrev pub nothing_read : Reading
nothing_read = record { plain = []; conflicts = []; work = [] }

abbrev pub with_word : Text → Reading → Reading
with_word text r = record r { plain = r.plain ++ text ∷ [] }

abbrev pub with_value : Setting → Text → Reading → Reading
with_value conflicts text r = record r { conflicts = r.conflicts ++ text ∷ [] }
with_value work text r = record r { work = r.work ++ text ∷ [] }

-- what an argument is, before `--`
pub data Word : Type 0 where
  plain : Word
  -- `--`
  dashes : Word
  -- `--conflicts`
  option : Setting → Word
  -- `--conflicts=TEXT`
  setting : Setting → Text → Word
  unknown : Word

-- an option, with what follows its first `=` if it has one
abbrev pub option_or_setting : Setting → Text → Word
option_or_setting o text =
    if list_any (λ x. x == equals) text then setting o (after_first (λ x. x == equals) text)
    else option o

-- what follows `--`, by the name before its first `=`
abbrev pub named : Text → Text → Word
named name text =
    if bytes_eq (codes "conflicts") name then option_or_setting conflicts text
    else if bytes_eq (codes "work") name then option_or_setting work text
    else unknown

abbrev pub after_dashes : Text → Word
after_dashes [] = dashes
after_dashes (x ∷ rest) = named (before_first (λ x. x == equals) (x ∷ rest)) (x ∷ rest)

abbrev pub after_dash : Text → Word
after_dash [] = plain
after_dash (x ∷ rest) = if x == minus_sign then after_dashes rest else unknown

abbrev pub word_of : Text → Word
word_of [] = plain
word_of (x ∷ rest) = if x == minus_sign then after_dash rest else plain

-- what the next argument is read as: any one, the value of an option, or a plain one after `--`
pub data Mode : Type 0 where
  open_to_all : Mode
  awaiting : Setting → Mode
  after_all : Mode

-- the value of an option, which is a plain argument
abbrev pub value_read : Setting → Text → Word → Reading → (Mode → Reading → Option Reading) → Option Reading
value_read o text plain r next = next open_to_all (with_value o text r)
value_read o text other r next = None

abbrev pub word_read : Text → Word → Reading → (Mode → Reading → Option Reading) → Option Reading
word_read text plain r next = next open_to_all (with_word text r)
word_read text dashes r next = next after_all r
word_read text (option o) r next = next (awaiting o) r
word_read text (setting o value) r next = next open_to_all (with_value o value r)
word_read text unknown r next = None

abbrev pub read_as : Mode → Text → Reading → (Mode → Reading → Option Reading) → Option Reading
read_as open_to_all text r next = word_read text (word_of text) r next
read_as (awaiting o) text r next = value_read o text (word_of text) r next
read_as after_all text r next = next after_all (with_word text r)

abbrev pub ended : Mode → Reading → Option Reading
ended (awaiting o) r = None
ended other r = Some r

-- the arguments that are left, read onto what was read
abbrev pub read_on : List Text → Mode → Reading → Option Reading
read_on [] mode r = ended mode r
read_on (text ∷ rest) mode r = read_as mode text r (read_on rest)

-- the plain arguments and the values of the options, if each argument has its place
abbrev pub read : List Text → Option Reading
read texts = read_on texts open_to_all nothing_read
