-- Entries: rows that may come out, each with its condition on the choice of rows.
use Rattle.std.specs.Prelude.{ℕ, zero, suc, Bool, true, false, cond, not, ◌&&◌, ◌||◌, List, [], ◌∷◌, ◌++◌, drop, length}
use Rattle.rt_value.specs.declared.value.Value.{Value}
use Rattle.rt_value.specs.declared.truth.Truth.{Truth}
use Rattle.rt_value.specs.declared.truth.Truth.TheVariants.{Yes, No, Unknown}
use Rattle.rt_value.specs.Row.{row_eq}
use Rattle.rt_schema.specs.Given.{Rows, Tables}
use Rattle.rt_algebra.specs.Answer.{is_yes, cell_truth}

abbrev pub Formula : Type 0
Formula = List Bool → Bool

-- when it is true, and when it is false
abbrev pub Test : Type 0
Test = Formula × Formula

abbrev pub Entry : Type 0
Entry = List Value × Formula

abbrev pub is_no : Truth → Bool
is_no Yes = false
is_no No = true
is_no Unknown = false

abbrev pub head : List Bool → Bool
head [] = false
head (b ∷ s) = b

abbrev pub tail : List Bool → List Bool
tail [] = []
tail (b ∷ s) = s

-- the rows whose condition holds
abbrev pub rows_at : List Bool → List Entry → Rows
rows_at s [] = []
rows_at s (e ∷ es) = cond (e.1 s) (e.0 ∷ rows_at s es) (rows_at s es)

abbrev pub of_rows : Rows → (List Bool → List Bool) → List Entry
of_rows [] f = []
of_rows (r ∷ rs) f = (r, λ s. head (f s)) ∷ of_rows rs (λ s. tail (f s))

abbrev pub of_table : Tables → (List Bool → List Bool) → ℕ → List Entry
of_table [] f n = []
of_table (t ∷ ts) f zero = of_rows t f
of_table (t ∷ ts) f (suc n) = of_table ts (λ s. drop (length t) (f s)) n

abbrev pub constant : Truth → Test
constant t = (λ s. is_yes t, λ s. is_no t)

abbrev pub any_entry : List Entry → Formula
any_entry [] s = false
any_entry (e ∷ es) s = e.1 s || any_entry es s

abbrev pub member_test : Value → List Entry → Test
member_test x [] = (λ s. false, λ s. true)
member_test x (e ∷ es) =
    (λ s. (e.1 s && is_yes (cell_truth x e.0)) || (member_test x es).0 s, λ s. (not (e.1 s) || is_no (cell_truth x e.0)) && (member_test x es).1 s)

abbrev pub selected : List Entry → (List Value → Test) → List Entry
selected [] p = []
selected (e ∷ es) p = (e.0, λ s. e.1 s && (p e.0).0 s) ∷ selected es p

abbrev pub projected : List Entry → (List Value → List Value) → List Entry
projected [] f = []
projected (e ∷ es) f = (f e.0, e.1) ∷ projected es f

abbrev pub join_entry : Entry → List Entry → List Entry
join_entry e [] = []
join_entry e (d ∷ ds) = (e.0 ++ d.0, λ s. e.1 s && d.1 s) ∷ join_entry e ds

abbrev pub paired : List Entry → List Entry → List Entry
paired [] ds = []
paired (e ∷ es) ds = join_entry e ds ++ paired es ds

-- whether a row is among the entries
abbrev pub stands : List Entry → List Value → Formula
stands [] r s = false
stands (d ∷ ds) r s = (row_eq r d.0 && d.1 s) || stands ds r s
