-- Whole numbers as the fields of INTEGER columns write them: an optional sign and digits, with
-- spaces and tabs around them (ISO/IEC 9075-2, 5.3 <signed numeric literal>).
use Rattle.std.specs.Prelude.{ℕ, ◌-◌, ◌^◌, ◌==◌, ◌||◌, Bool, true, false, if◌then◌else◌, List, [], ◌∷◌, reverse, Option, None, option_map, ℤ, pos, ◌-ℤ◌}
use Rattle.rt_value.specs.Bytes.{space, tab, plus_sign, minus_sign}
use Rattle.rt_value.specs.Numeral.{all_digits, decimal, decimal_to}

-- ---- blanks

abbrev pub is_blank : ℕ → Bool
is_blank b = b == space || b == tab

-- what follows the blanks at the front
abbrev pub without_blanks : List ℕ → List ℕ
without_blanks [] = []
without_blanks (b ∷ bs) = if is_blank b then without_blanks bs else b ∷ bs

abbrev pub trimmed_end : List ℕ → List ℕ
trimmed_end bs = reverse (without_blanks (reverse bs))

-- the bytes without the blanks around them
abbrev pub trimmed : List ℕ → List ℕ
trimmed bs = trimmed_end (without_blanks bs)

-- ---- numbers from -2^63 to 2^63 - 1

abbrev pub with_sign : Bool → ℕ → Option ℤ
with_sign true n = option_map (λ k. pos 0 -ℤ pos k) (decimal_to (2 ^ 63) n)
with_sign false n = option_map pos (decimal_to (2 ^ 63 - 1) n)

-- one or more digits after a minus sign, or after none
abbrev pub signed : Bool → List ℕ → Option ℤ
signed minus [] = None
signed minus (d ∷ ds) = if all_digits (d ∷ ds) then with_sign minus (decimal (d ∷ ds)) else None

abbrev pub integer : List ℕ → Option ℤ
integer [] = None
integer (b ∷ bs) = if b == minus_sign then signed true bs else (if b == plus_sign then signed false bs else signed false (b ∷ bs))
