-- Numbers and literals as pieces.
use Rattle.std.proofs.Common.{◌≡◌, ◌≢◌, ◌<◌, ◌≤◌, ◌^◌, ℕ, zero, suc, Bool, true, false, [], ◌∷◌, length, get_or, refl, sym, ap, ◌∙◌, subst, rules, arith, Option, Some, None}
use Rattle.std.specs.Prelude.{if◌then◌else◌, nat_le, ◌==◌, ◌-◌}
use Rattle.std.specs.Fmt.{decimal}
use Rattle.std.specs.Int.{IsInRange}
use Rattle.std.specs.List.{AllByRecursion as Each}
use Rattle.std.proofs.lemmas.Bool.Decides.{nat_tests}
use Rattle.std.proofs.lemmas.Fmt.{decimal-digits_value, decimal_digit, decimal_nonempty, digits_decimal, digits_value-decimal, first_decimal}
use Rattle.std.proofs.lemmas.List.Elements.{All-from_get_or, recursion_from_All}
use Rattle.std.proofs.lemmas.Str.Parse.{IsNumeralModel, not_in_digits, numerals_by_fold}
use Rattle.rt_value.specs.Numeral.{all_digits, decimal as value, decimal_after, decimal_to}
use Rattle.rt_clause.specs.Literal.{Literal}
use Rattle.rt_recorder.specs.Certificate.{Text, IsNumber, literal}
use Rattle.rt_recorder.specs.Reading.{Reads, numeral}

own : IsNumeralModel (λ ds. all_digits ds ≡ true) (decimal_after 0)
own = numerals_by_fold _ (search rules) decimal_after (search rules)

numeral-from : (ds : Text) → all_digits ds ≡ true → 0 < length ds → (get_or ds 0 0 ≡ 48 → length ds ≡ 1) → numeral ds ≡ true
numeral-from [] d l z = absurd (omega arith)
numeral-from (b ∷ []) d l z = d
numeral-from (b ∷ c ∷ ds) d l z = more (b == 48) refl where
  more : (t : Bool) → (b == 48) ≡ t → (if t then false else all_digits (b ∷ c ∷ ds)) ≡ true
  more false e = d
  more true e = let is : b ≡ 48 = grind (arith, nat_tests) in absurd (omega (arith, z is))

abbrev IsPlain : Text → Type 0
IsPlain ds = (all_digits ds ≡ true) × (0 < length ds) × (get_or ds 0 0 ≡ 48 → length ds ≡ 1)

pub numeral-to : (ds : Text) → numeral ds ≡ true → IsPlain ds
numeral-to [] h = absurd (cc)
numeral-to (b ∷ []) h = (h, omega arith, λ z. omega arith)
numeral-to (b ∷ c ∷ ds) h = more (b == 48) refl h where
  more : (t : Bool) → (b == 48) ≡ t → (if t then false else all_digits (b ∷ c ∷ ds)) ≡ true → IsPlain (b ∷ c ∷ ds)
  more true e k = absurd (cc)
  more false e k = (k, omega arith, λ z. absurd (grind (arith, nat_tests)))

first-zero : (n : ℕ) → n < 2 ^ 64 → get_or (decimal n) 0 0 ≡ 48 → length (decimal n) ≡ 1
first-zero zero h z = ap length (decimal_digit 0 (omega arith))
first-zero (suc n) h z = absurd (omega (arith, first_decimal (suc n) (omega arith) h))

pub numeral-decimal : (n : ℕ) → n < 2 ^ 64 → numeral (decimal n) ≡ true
numeral-decimal n h = numeral-from (decimal n) (digits_decimal own n h) (decimal_nonempty n h) (first-zero n h)

pub value-decimal : (n : ℕ) → n < 2 ^ 64 → value (decimal n) ≡ n
value-decimal n h = digits_value-decimal own n h

pub decimal-value : (ds : Text) → numeral ds ≡ true → value ds < 2 ^ 64 → ds ≡ decimal (value ds)
decimal-value ds h l = let p = numeral-to ds h in sym (decimal-digits_value own ds p.0 p.1 p.2 l)

pub not-numeral : (ds : Text) → numeral ds ≡ false → Reads IsNumber decimal ds None
not-numeral ds f n h e = let t : numeral ds ≡ true = subst (λ (d : Text). numeral d ≡ true) (sym e) (numeral-decimal n (omega arith)) in absurd (cc)

to-max : (m v : ℕ) (o : Option ℕ) → o ≡ decimal_to m v → o ≡ None → m < v
to-max m v o e n = grind (arith, nat_tests)

pub too-big : (ds : Text) (o : Option ℕ) → o ≡ decimal_to (2 ^ 62 - 1) (value ds) → o ≡ None → Reads IsNumber decimal ds None
too-big ds o e k n h is =
    let v : value ds ≡ n = ap value is ∙ value-decimal n (omega arith) in
    absurd (omega (arith, to-max (2 ^ 62 - 1) (value ds) o e k))

to-some : (m v : ℕ) (n : ℕ) → Some n ≡ decimal_to m v → (n ≡ v) × (v ≤ m)
to-some m v n e = more (nat_le v m) refl e where
  more : (t : Bool) → nat_le v m ≡ t → Some n ≡ (if t then Some v else None) → (n ≡ v) × (v ≤ m)
  more true t k = (cc, grind (arith, nat_tests))
  more false t k = absurd (cc)

pub is-number : (ds : Text) (n : ℕ) → numeral ds ≡ true → Some n ≡ decimal_to (2 ^ 62 - 1) (value ds) → Reads IsNumber decimal ds (Some n)
is-number ds n t e =
    let p = to-some (2 ^ 62 - 1) (value ds) n e in
    (omega arith, decimal-value ds t (omega arith) ∙ ap decimal (sym p.0))

-- ---- bytes that no number has

pub decimal-free : (c : ℕ) → ¬ (IsInRange 48 57 c) → (n : ℕ) → n < 2 ^ 64 → Each (λ b. b ≢ c) (decimal n)
decimal-free c out n h = recursion_from_All (λ b. b ≢ c) (decimal n)
    (All-from_get_or (λ b. b ≢ c) (decimal n) 0 (not_in_digits own (decimal n) c (digits_decimal own n h) out))

pub literal-free : (c : ℕ) → ¬ (IsInRange 43 57 c) → (l : Literal) → IsNumber l.var → Each (λ b. b ≢ c) (literal l)
literal-free c out l h = (sign l.on, decimal-free c (λ r. out (omega arith, omega arith)) l.var (omega arith)) where
  sign : (on : Bool) → (if on then 43 else 45) ≢ c
  sign true e = out (omega arith, omega arith)
  sign false e = out (omega arith, omega arith)

pub number-free : (n : ℕ) → IsNumber n → Each (λ b. b ≢ 32) (decimal n)
number-free n h = decimal-free 32 (λ r. omega arith) n (omega arith)

pub lit-free : (l : Literal) → IsNumber l.var → Each (λ b. b ≢ 32) (literal l)
lit-free l h = literal-free 32 (λ r. omega arith) l h
