-- What a table's file gives: its rows, or its first error. The records of the file are those that
-- the crate `csv` defines for its bytes (RFC 4180); the first is the header, and counts as 1.
use Rattle.std.specs.Prelude.{ℕ, zero, suc, ◌+◌, ◌==◌, ◌&&◌, Bool, true, false, nat_lt, if◌then◌else◌, List, [], ◌∷◌, length, Option, Some, None, Result, Ok, Err, ℤ}
use Rattle.std.specs.Str.{bytes_eq, is_utf8, str_to_ascii_lowercase}
use Rattle.csv.specs.Reading.{default_config, records}
use Rattle.rt_value.specs.declared.value.Value.{Value}
use Rattle.rt_value.specs.declared.value.Value.TheVariants as v
use Rattle.rt_schema.specs.declared.table.ColKind.{ColKind}
use Rattle.rt_schema.specs.declared.table.ColKind.TheVariants.{Whole, Text}
use Rattle.rt_schema.specs.declared.table.Column.{Column}
use Rattle.rt_schema.specs.declared.table.Table.{Table}
use Rattle.rt_schema.specs.Given.{Rows, row_limit}
use Rattle.rt_load.specs.Integer.{integer, trimmed}
use Rattle.rt_load.specs.declared.fault.LoadFault.{LoadFault}
use Rattle.rt_load.specs.declared.fault.LoadFault.TheVariants.{BadHeader, FieldCount, TooManyRows, BadInteger, BadText, NoMemory}

abbrev pub Field : Type 0
Field = List ℕ

-- the first error decides
infixl 10 ◌>>=◌
abbrev pub ◌>>=◌ : {A B : Type 0} → Result A LoadFault → (A → Result B LoadFault) → Result B LoadFault
Ok x >>= f = f x
Err e >>= f = Err e

-- ---- fields

abbrev pub number_or : LoadFault → Option ℤ → Result Value LoadFault
number_or fault (Some n) = Ok (v.Int n)
number_or fault None = Err fault

abbrev pub whole_cell : LoadFault → Field → Result Value LoadFault
whole_cell fault [] = Ok v.Null
whole_cell fault (b ∷ bs) = number_or fault (integer (b ∷ bs))

abbrev pub text_cell : LoadFault → Field → Result Value LoadFault
text_cell fault [] = Ok v.Null
text_cell fault (b ∷ bs) = if is_utf8 (b ∷ bs) then Ok (v.Text (b ∷ bs)) else Err fault

-- field c of record n, in a column of this kind: a whole number without the blanks around it, or a
-- text as it is; NULL where that is empty
abbrev pub cell : ColKind → ℕ → ℕ → Field → Result Value LoadFault
cell Whole n c field = whole_cell (BadInteger n c) (trimmed field)
cell Text n c field = text_cell (BadText n c) field

-- the fields of record n from field c on, one for each column
unfoldable pub cells : List Column → ℕ → ℕ → List Field → Result (List Value) LoadFault
cells [] n c fields = Ok []
cells (k ∷ ks) n c [] = Ok []
cells (k ∷ ks) n c (f ∷ fs) = cell k.kind n c f >>= λ x. cells ks n (c + 1) fs >>= λ xs. Ok (x ∷ xs)

-- ---- records

-- the field is the name, without the blanks around it and whatever the case of its letters
abbrev pub is_name : List ℕ → Field → Bool
is_name name field = bytes_eq (str_to_ascii_lowercase (trimmed field)) (str_to_ascii_lowercase name)

abbrev pub is_header : List Column → List Field → Bool
is_header [] [] = true
is_header [] (f ∷ fs) = false
is_header (k ∷ ks) [] = false
is_header (k ∷ ks) (f ∷ fs) = is_name k.name f && is_header ks fs

-- the row of record n, where `before` rows are there already
unfoldable pub row_at : List Column → ℕ → ℕ → List Field → Result (List Value) LoadFault
row_at columns n before fields =
    if length fields == length columns then (if nat_lt before row_limit then cells columns n 1 fields else Err TooManyRows)
    else Err (FieldCount n)

-- the rows of the records from record n on
unfoldable pub rows_from : List Column → ℕ → ℕ → List (List Field) → Result Rows LoadFault
rows_from columns n before [] = Ok []
rows_from columns n before (r ∷ rs) = row_at columns n before r >>= λ row. rows_from columns (n + 1) (before + 1) rs >>= λ rows. Ok (row ∷ rows)

unfoldable pub rows_behind_header : List Column → ℕ → List (List Field) → Result Rows LoadFault
rows_behind_header columns before [] = Err BadHeader
rows_behind_header columns before (h ∷ rs) = if is_header columns h then rows_from columns 2 before rs else Err BadHeader

-- ---- files

-- a byte order mark begins the bytes
abbrev pub begins_with_mark : List ℕ → Bool
begins_with_mark (a ∷ b ∷ c ∷ rest) = (a == 0xEF) && (b == 0xBB) && (c == 0xBF)
begins_with_mark _ = false

-- the rows of a file, for a table with these columns, where `before` rows are given already
unfoldable pub loaded : List Column → List ℕ → ℕ → Result Rows LoadFault
loaded columns bytes before =
    if begins_with_mark bytes then Err BadHeader else rows_behind_header columns before (records default_config bytes)

-- ---- what the call says

abbrev pub columns_at : List Table → ℕ → List Column
columns_at [] n = []
columns_at (t ∷ ts) zero = t.columns
columns_at (t ∷ ts) (suc n) = columns_at ts n

-- a result, with these rows where it is Ok
abbrev pub with_rows : {T : Type 0} → Result T LoadFault → Rows → Result Rows LoadFault
with_rows (Ok done) rows = Ok rows
with_rows (Err e) rows = Err e

abbrev pub is_memory : LoadFault → Bool
is_memory NoMemory = true
is_memory BadHeader = false
is_memory (FieldCount n) = false
is_memory TooManyRows = false
is_memory (BadInteger n c) = false
is_memory (BadText n c) = false
