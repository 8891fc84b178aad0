-- The text of a certificate: lines that each end with LF, in pieces parted by one space. Numbers
-- are decimal without leading zeros, a literal is its sign and its variable.
use Rattle.std.specs.Prelude.{ℕ, ◌<◌, ◌^◌, if◌then◌else◌, List, [], ◌∷◌, ◌++◌, map, length, codes, Option, Some, None}
use Rattle.std.specs.Fmt.{decimal}
use Rattle.std.specs.List.{AllByRecursion as Each}
use Rattle.std.specs.List.Sorted.{IsStrictlyIncreasing}
use Rattle.std.specs.Option.{IfSome}
use Rattle.rt_value.specs.Bytes.{line_feed, space, plus_sign, minus_sign}
use Rattle.rt_clause.specs.Literal.{Literal}
use Rattle.rt_recorder.specs.declared.cert.Cert.{Cert}
use Rattle.rt_recorder.specs.declared.cert.Step.{Step}

abbrev pub Text : Type 0
Text = List ℕ

-- ---- pieces

-- each piece after a space
abbrev pub spaced : {X : Type 0} → (X → Text) → List X → Text
spaced spell [] = []
spaced spell (x ∷ xs) = space ∷ (spell x ++ spaced spell xs)

-- + where the literal is true at true, and - where it is true at false
abbrev pub literal : Literal → Text
literal l = (if l.on then plus_sign else minus_sign) ∷ decimal l.var

-- ---- lines

abbrev pub header : Text
header = codes "ratest certificate 1"

abbrev pub witness : ℕ → Text
witness rows = codes "verdict witness " ++ decimal rows

abbrev pub agree : Text
agree = codes "verdict agree"

abbrev pub keep_line : List ℕ → Text
keep_line places = codes "keep" ++ spaced decimal places

abbrev pub added_line : ℕ → Text
added_line lines = codes "added " ++ decimal lines

abbrev pub step_line : Step → Text
step_line s = codes "d" ++ (spaced literal s.lits ++ (codes " ;" ++ spaced decimal s.hints))

abbrev pub last_line : Text
last_line = codes "end"

abbrev pub verdict_lines : Option (List ℕ) → List Text
verdict_lines None = agree ∷ []
verdict_lines (Some places) = witness (length places) ∷ keep_line places ∷ []

abbrev pub cert_lines : Cert → List Text
cert_lines c = header ∷ (verdict_lines c.keep ++ added_line c.added ∷ (map step_line c.steps ++ last_line ∷ []))

-- ---- the text

-- each line ends with LF
abbrev pub text_of : List Text → Text
text_of [] = []
text_of (line ∷ lines) = line ++ line_feed ∷ text_of lines

abbrev pub cert_text : Cert → Text
cert_text c = text_of (cert_lines c)

-- ---- what can be written

abbrev pub IsNumber : ℕ → Type 0
IsNumber n = n < 2 ^ 62

-- places strictly rise
pub record ArePlaces (places : List ℕ) : Type 0 where
  pub few : IsNumber (length places)
  pub small : Each IsNumber places
  pub rising : IsStrictlyIncreasing places

pub record IsStep (s : Step) : Type 0 where
  pub lits : Each (λ l. IsNumber l.var) s.lits
  pub hints : Each IsNumber s.hints

-- numbers are below 2^62 and the places strictly rise
pub record IsCert (c : Cert) : Type 0 where
  pub places : IfSome c.keep ArePlaces
  pub added : IsNumber c.added
  pub steps : Each IsStep c.steps
