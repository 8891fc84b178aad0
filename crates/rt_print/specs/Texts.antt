-- The texts that are printed: bytes, in lines that end with LF, with decimal numbers without
-- leading zeros. Texts are put in quotes as in ISO/IEC 9075-2, 5.3 <character string literal>.
use Rattle.std.specs.Prelude.{ℕ, ◌+◌, Bool, true, false, if◌then◌else◌, ◌==◌, List, [], ◌∷◌, ◌++◌, length, drop, filter, Option, Some, None, codes}
use Rattle.std.specs.Bool.{beq}
use Rattle.std.specs.Fmt.{decimal, signed_decimal}
use Rattle.std.specs.List.{list_any}
use Rattle.rt_value.specs.Bytes.{line_feed, quote}
use Rattle.rt_value.specs.declared.value.Value.{Value}
use Rattle.rt_value.specs.declared.value.Value.TheVariants as v
use Rattle.rt_value.specs.Keep.{size}
use Rattle.rt_value.specs.Row.{row_eq}
use Rattle.rt_schema.specs.declared.table.Table.{Table}
use Rattle.rt_schema.specs.Given.{Rows, Tables}

abbrev pub Text : Type 0
Text = List ℕ

abbrev pub line : Text → Text
line text = text ++ line_feed ∷ []

-- ---- rows

-- the text with each quote in it doubled
abbrev pub doubled : Text → Text
doubled [] = []
doubled (b ∷ bs) = if b == quote then quote ∷ quote ∷ doubled bs else b ∷ doubled bs

abbrev pub cell : Value → Text
cell v.Null = codes "NULL"
cell (v.Int n) = signed_decimal n
cell (v.Text t) = quote ∷ doubled t ++ quote ∷ []

abbrev pub more_cells : List Value → Text
more_cells [] = []
more_cells (x ∷ row) = codes ", " ++ (cell x ++ more_cells row)

-- the cells of a row, with a comma and a space between them
abbrev pub cells : List Value → Text
cells [] = []
cells (x ∷ row) = cell x ++ more_cells row

-- ---- kept rows, each with its table's name and its number in the table, from 1

abbrev pub kept_line : Text → ℕ → List Value → Text
kept_line name n row = line (name ++ (codes " " ++ (decimal n ++ (codes ": " ++ cells row))))

-- of a table's rows from number n on those whose Bool is true
abbrev pub table_lines : Text → ℕ → Rows → List Bool → Text
table_lines name n [] keep = []
table_lines name n (row ∷ rows) [] = []
table_lines name n (row ∷ rows) (kept ∷ keep) =
    if kept then kept_line name n row ++ table_lines name (n + 1) rows keep else table_lines name (n + 1) rows keep

-- table by table; the places of a table follow those of the tables before it
abbrev pub kept_lines : List Table → Tables → List Bool → Text
kept_lines [] given keep = []
kept_lines (table ∷ tables) [] keep = []
kept_lines (table ∷ tables) (rows ∷ given) keep = table_lines table.name 1 rows keep ++ kept_lines tables given (drop (length rows) keep)

-- ---- answers

abbrev pub has : Rows → List Value → Bool
has rows row = list_any (λ r. row_eq r row) rows

-- the rows that are among the others, or those that are not
abbrev pub among : Bool → Rows → Rows → Rows
among shared rows others = filter (λ row. beq (has others row) shared) rows

abbrev pub row_line : List Value → Text
row_line row = line (codes "  " ++ cells row)

abbrev pub row_lines : Rows → Text
row_lines [] = []
row_lines (row ∷ rows) = row_line row ++ row_lines rows

abbrev pub count_line : Text → ℕ → Text
count_line title n = line (title ++ (codes ": " ++ decimal n))

-- the number of rows, and the rows
abbrev pub counted : Text → Rows → Text
counted title rows = count_line title (length rows) ++ row_lines rows

-- ---- the texts

-- the kept rows at which two queries differ, and their answers on these
abbrev pub witness_text : List Table → Tables → List Bool → Rows → Rows → Text
witness_text schema given keep left right =
    count_line (codes "witness") (size keep) ++ (kept_lines schema given keep
    ++ (counted (codes "only query 1") (among false left right)
    ++ (counted (codes "only query 2") (among false right left)
    ++ counted (codes "both") (among true left right))))

abbrev pub budget_line : ℕ → Text
budget_line budget = line (codes "undecided: " ++ (decimal budget ++ codes " conflicts"))

abbrev pub best_lines : List Table → Tables → Option (List Bool) → Text
best_lines schema given None = []
best_lines schema given (Some keep) = count_line (codes "best so far") (size keep) ++ kept_lines schema given keep

-- a search that ended at its budget of conflicts, and the best that it had found
abbrev pub spent_text : List Table → Tables → ℕ → Option (List Bool) → Text
spent_text schema given budget best = budget_line budget ++ best_lines schema given best
