-- How a certificate is read: line by line, and in a line piece by piece.
use Rattle.std.specs.Prelude.{◌≡◌, ◌≢◌, ℕ, ◌==◌, Bool, false, if◌then◌else◌, List, [], ◌∷◌, ◌++◌, map, Option, Some, None}
use Rattle.std.specs.List.{AllByRecursion as Each}
use Rattle.std.specs.Option.{IfSome}
use Rattle.rt_value.specs.Bytes.{zero_digit}
use Rattle.rt_value.specs.Numeral.{all_digits}
use Rattle.rt_recorder.specs.Certificate.{Text, IsNumber, ArePlaces, IsCert, IsStep, added_line, agree, cert_lines, header, literal, spaced, step_line, verdict_lines, witness}
use Rattle.std.specs.Fmt.{decimal}
use Rattle.rt_recorder.specs.declared.cert.Step.{Step}
use Rattle.rt_recorder.specs.declared.claim.Claim.{Claim}
use Rattle.rt_recorder.specs.declared.claim.Claim.TheVariants.{Witness, Agree}
use Rattle.rt_recorder.specs.Lines.{Begins}
use Rattle.rt_recorder.specs.declared.reading.Reading.{Reading}
use Rattle.rt_recorder.specs.declared.reading.Reading.TheVariants.{Head, Verdict, Keep, Added, Steps, Ended}

-- just what is spelled so is read
abbrev pub Reads : {X : Type 0} → (X → Type 0) → (X → Text) → Text → Option X → Type 0
Reads {X} Fits spell text None = (x : X) → Fits x → text ≡ spell x → ⊥
Reads {X} Fits spell text (Some x) = Fits x × (text ≡ spell x)

-- the same of a step, whose literals and hints are spelled in two texts
abbrev pub ReadsParts : Text → Text → Option Step → Type 0
ReadsParts lits hints None = (s : Step) → IsStep s → lits ≡ spaced literal s.lits → hints ≡ spaced decimal s.hints → ⊥
ReadsParts lits hints (Some s) = IsStep s × (lits ≡ spaced literal s.lits) × (hints ≡ spaced decimal s.hints)

abbrev pub IsClaim : Claim → Type 0
IsClaim (Witness rows) = IsNumber rows
IsClaim Agree = Unit {0}

abbrev pub claim_line : Claim → Text
claim_line (Witness rows) = witness rows
claim_line Agree = agree

-- digits without a leading zero
abbrev pub numeral : Text → Bool
numeral [] = false
numeral (b ∷ []) = all_digits (b ∷ [])
numeral (b ∷ c ∷ bs) = if b == zero_digit then false else all_digits (b ∷ c ∷ bs)

abbrev pub IsAhead : ℕ → Text → Type 0
IsAhead at [] = Unit {0}
IsAhead at (b ∷ bs) = b ≡ at

-- a text in two parts, the second of which begins with the first byte that is `at`
pub record IsCut (at : ℕ) (text front back : Text) : Type 0 where
  pub parts : text ≡ front ++ back
  pub free : Each (λ b. b ≢ at) front
  pub ahead : IsAhead at back

-- the lines that have been read
abbrev pub lines_read : Reading → List Text
lines_read Head = []
lines_read Verdict = header ∷ []
lines_read (Keep rows) = header ∷ witness rows ∷ []
lines_read (Added keep) = header ∷ verdict_lines keep
lines_read (Steps c) = header ∷ (verdict_lines c.keep ++ added_line c.added ∷ map step_line c.steps)
lines_read (Ended c) = cert_lines c

abbrev pub IsReading : Reading → Type 0
IsReading Head = Unit {0}
IsReading Verdict = Unit {0}
IsReading (Keep rows) = IsNumber rows
IsReading (Added keep) = IfSome keep ArePlaces
IsReading (Steps c) = IsCert c
IsReading (Ended c) = IsCert c

-- what is read once the line is, or that no certificate's text goes on with it
abbrev pub IsNext : Reading → Text → Option Reading → Type 0
IsNext r line None = Begins (lines_read r ++ line ∷ []) → ⊥
IsNext r line (Some next) = IsReading next × (lines_read next ≡ lines_read r ++ line ∷ [])
