-- The command that arguments mean.
use Rattle.std.specs.Prelude.{◌≡◌, ℕ, ◌&&◌, Bool, true, false, nat_le, List, [], ◌∷◌, length, Option, Some, None, codes, if◌then◌else◌, option_map, option_and_then, unwrap_or, Result, Ok, Err}
use Rattle.std.specs.Str.{bytes_eq}
use Rattle.rt_value.specs.Numeral.{all_digits, decimal}
use Rattle.rt_io.specs.declared.word_fault.WordFault.{WordFault}
use Rattle.rt_io.specs.declared.word_fault.WordFault.TheVariants.{Usage, NoMemory}
use Rattle.rt_io.specs.declared.limits.Limits.{Limits}
use Rattle.rt_io.specs.Ranges.{Command, most_conflicts, most_made, most_work}
use Rattle.rt_io.specs.Reading.{Reading, Text, read}

-- ---- numbers

abbrev pub one_to_ten_digits : Text → Bool
one_to_ten_digits text = nat_le 1 (length text) && (nat_le (length text) 10 && all_digits text)

-- a number of one to ten digits, from 1 to `most`
abbrev pub number_to : ℕ → Text → Option ℕ
number_to most text =
    if one_to_ten_digits text && (nat_le 1 (decimal text) && nat_le (decimal text) most) then Some (decimal text) else None

-- the value of an option that comes once at most
abbrev pub limit_of : ℕ → List Text → Option (Option ℕ)
limit_of most [] = Some None
limit_of most (text ∷ []) = option_map (λ n. Some n) (number_to most text)
limit_of most (text ∷ other ∷ rest) = None

-- ---- options

-- the work limit where no option gives it
abbrev pub work_by_default : ℕ
work_by_default = 16000000

abbrev pub limits_of : Option (Option ℕ) → Option (Option ℕ) → Option Limits
limits_of (Some conflicts) (Some work) = Some (record { conflicts = conflicts; work = unwrap_or work work_by_default })
limits_of _ _ = None

abbrev pub limits : Reading → Option Limits
limits r = limits_of (limit_of most_conflicts r.conflicts) (limit_of most_work r.work)

-- ---- forms

-- SCHEMA DATADIR QUERY1 QUERY2
abbrev pub of_files : List Text → Limits → Option Command
of_files (schema ∷ dir ∷ query1 ∷ query2 ∷ []) l =
    Some (record { paths = schema ∷ dir ∷ query1 ∷ query2 ∷ []; conflicts = l.conflicts; work_limit = l.work; made = None })
of_files _ l = None

-- made N
abbrev pub of_made : List Text → Limits → Option Command
of_made (n ∷ []) l = option_map (λ n. record { paths = []; conflicts = l.conflicts; work_limit = l.work; made = Some n }) (number_to most_made n)
of_made _ l = None

abbrev pub form : (List Text → Limits → Option Command) → Reading → Option Command
form of r = option_and_then (of r.plain) (limits r)

-- the command that the arguments mean; the second form is read where the first one is `made`
abbrev pub command : List Text → Option Command
command [] = None
command (first ∷ rest) =
    if bytes_eq first (codes "made") then option_and_then (form of_made) (read rest)
    else option_and_then (form of_files) (read (first ∷ rest))

-- either form
abbrev pub of_form : Bool → List Text → Limits → Option Command
of_form true words l = of_made words l
of_form false words l = of_files words l

-- the command is read, or the error is `Usage` where there is none, unless out of memory
abbrev pub Reads : Option Command → Result Command WordFault → Type 0
Reads c (Ok words) = c ≡ Some words
Reads c (Err Usage) = c ≡ None
Reads c (Err NoMemory) = Unit {0}
