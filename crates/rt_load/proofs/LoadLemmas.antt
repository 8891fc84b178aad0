-- Lemmas on the rows of a file.
use Rattle.std.proofs.Common.{◌≡◌, ◌<◌, ◌≤◌, arith, ◌+◌, ◌∙◌, ap, sym, ℕ, List, [], ◌∷◌, ◌++◌, length, drop, get_or, refl, true, false, Bool, Result, Ok, Err, add-one, append_assoc, Some, None, zero, suc, ◌&&◌}
use Rattle.std.specs.Prelude.{MatchBool}
use Rattle.std.proofs.lemmas.Bool.Decides.{nat_tests}
use Rattle.std.proofs.Math.Seq.{drop-cons}
use Rattle.std.proofs.lemmas.List.{append-nil, drop_all}
use Rattle.csv.specs.Records.{field_at}
use Rattle.csv.specs.Reading.{default_config, records, strip_bom}
use Rattle.rt_value.specs.Gives.{Gives}
use Rattle.rt_value.specs.declared.value.Value.{Value}
use Rattle.rt_schema.specs.declared.table.Column.{Column}
use Rattle.rt_schema.specs.Given.{Rows, row_limit}
use Rattle.rt_load.specs.Loaded.{Field, begins_with_mark, is_header, rows_behind_header, loaded, is_name, is_memory, ◌>>=◌, cell, cells, row_at, rows_from}
use Rattle.rt_load.specs.declared.fault.LoadFault.{LoadFault}
use Rattle.rt_load.specs.declared.fault.LoadFault.TheVariants.{BadHeader, FieldCount, TooManyRows}

passes-if : (b : Bool) (A B : Type 0) → (A → B) → MatchBool b (Unit {0}) A → MatchBool b (Unit {0}) B
passes-if true A B f h = tt
passes-if false A B f h = f h

-- an error of a part is the whole's, where the definitions agree
pub passes : (e : LoadFault) {T U : Type 0} (part : Result T LoadFault) (whole : Result U LoadFault) → (part ≡ Err e → whole ≡ Err e) → Gives {T = T} is_memory (Err e) part → Gives {T = U} is_memory (Err e) whole
passes e part whole f h = passes-if (is_memory e) (part ≡ Err e) (whole ≡ Err e) f h

-- a result, with the elements of `front` before its own
abbrev pub with_front : {X : Type 0} → List X → Result (List X) LoadFault → Result (List X) LoadFault
with_front front (Ok more) = Ok (front ++ more)
with_front front (Err e) = Err e

-- one more element in front
front-more : {X : Type 0} (front : List X) (x : X) (r : Result (List X) LoadFault) → with_front front (r >>= λ xs. Ok (x ∷ xs)) ≡ with_front (front ++ x ∷ []) r
front-more {X = X} front x (Ok xs) = ap (λ (l : List X). Ok l) (sym (append_assoc front (x ∷ []) xs))
front-more front x (Err e) = refl

pub rows-step : (cols : List Column) (n count : ℕ) (fields : List Field) (rest : List (List Field)) (rows : Rows) (row : List Value) → row_at cols n count fields ≡ Ok row
    → with_front rows (rows_from cols n count (fields ∷ rest)) ≡ with_front (rows ++ row ∷ []) (rows_from cols (n + 1) (count + 1) rest)
unfolding rows_from
rows-step cols n count fields rest rows row e = rw e (front-more rows row (rows_from cols (n + 1) (count + 1) rest))

pub rows-fault : (cols : List Column) (n count : ℕ) (fields : List Field) (rest : List (List Field)) (rows : Rows) (e : LoadFault) → row_at cols n count fields ≡ Err e
    → with_front rows (rows_from cols n count (fields ∷ rest)) ≡ Err e
unfolding rows_from
rows-fault cols n count fields rest rows e h = rw h refl

pub rows-end : (cols : List Column) (n count : ℕ) (rows : Rows) → with_front rows (rows_from cols n count []) ≡ Ok rows
unfolding rows_from
rows-end cols n count rows = simp append-nil

-- a field, and those after it
pub field-drop : (fields : List Field) (i : ℕ) (f : Field) → field_at fields i ≡ Some f → drop i fields ≡ f ∷ drop (i + 1) fields
unfolding field_at
field-drop [] i f e = cc e
field-drop (g ∷ fs) zero f e = let h : g ≡ f = cc in rw h refl
field-drop (g ∷ fs) (suc i) f e = rw (add-one) (field-drop fs i f e ∙ rw (add-one) refl)

-- a column, and those after it
column-drop : (cols : List Column) (i : ℕ) (d : Column) → i < length cols → d ≡ get_or cols i d → drop i cols ≡ d ∷ drop (suc i) cols
column-drop cols i d h q = drop-cons cols i d h ∙ ap (λ (x : Column). x ∷ drop (suc i) cols) (sym q)

pub cells-step : (cols : List Column) (n i : ℕ) (d : Column) (fields : List Field) (f : Field) (values : List Value) (v : Value) → i < length cols → d ≡ get_or cols i d → field_at fields i ≡ Some f
    → cell d.kind n (i + 1) f ≡ Ok v
    → with_front values (cells (drop i cols) n (i + 1) (drop i fields)) ≡ with_front (values ++ v ∷ []) (cells (drop (i + 1) cols) n (i + 1 + 1) (drop (i + 1) fields))
unfolding cells
cells-step cols n i d fields f values v h q e k =
    let c1 = column-drop cols i d h q in
    let f1 = field-drop fields i f e in
    rw (c1, f1, k) (rw (add-one i) (front-more values v _))

pub cells-fault : (cols : List Column) (n i : ℕ) (d : Column) (fields : List Field) (f : Field) (values : List Value) (e : LoadFault) → i < length cols → d ≡ get_or cols i d → field_at fields i ≡ Some f
    → cell d.kind n (i + 1) f ≡ Err e → with_front values (cells (drop i cols) n (i + 1) (drop i fields)) ≡ Err e
unfolding cells
cells-fault cols n i d fields f values e h q at k = rw (column-drop cols i d h q, field-drop fields i f at, k) refl

-- ---- the start of a file

strip-none : (bytes : List ℕ) → begins_with_mark bytes ≡ false → strip_bom bytes ≡ bytes
unfolding strip_bom
strip-none [] e = refl
strip-none (a ∷ []) e = refl
strip-none (a ∷ b ∷ []) e = refl
strip-none (a ∷ b ∷ c ∷ rest) e = rw e refl

pub loaded-marked : (cols : List Column) (bytes : List ℕ) (before : ℕ) → begins_with_mark bytes ≡ true → loaded cols bytes before ≡ Err BadHeader
unfolding loaded
loaded-marked cols bytes before e = rw e refl

loaded-plain : (cols : List Column) (bytes : List ℕ) (before : ℕ) (rs : List (List Field)) → begins_with_mark bytes ≡ false → rs ≡ records default_config (strip_bom bytes)
    → loaded cols bytes before ≡ rows_behind_header cols before rs
unfolding loaded
loaded-plain cols bytes before rs e h = rw (e, h, strip-none bytes e) refl

pub loaded-none : (cols : List Column) (bytes : List ℕ) (before : ℕ) (rs : List (List Field)) → begins_with_mark bytes ≡ false → rs ≡ records default_config (strip_bom bytes) → rs ≡ []
    → loaded cols bytes before ≡ Err BadHeader
unfolding rows_behind_header
loaded-none cols bytes before rs e h n = loaded-plain cols bytes before rs e h ∙ rw n refl

pub loaded-bad : (cols : List Column) (bytes : List ℕ) (before : ℕ) (rs rest : List (List Field)) (names : List Field) → begins_with_mark bytes ≡ false → rs ≡ records default_config (strip_bom bytes)
    → rs ≡ names ∷ rest → is_header cols names ≡ false → loaded cols bytes before ≡ Err BadHeader
unfolding rows_behind_header
loaded-bad cols bytes before rs rest names e h n b = loaded-plain cols bytes before rs e h ∙ rw (n, b) refl

pub loaded-good : (cols : List Column) (bytes : List ℕ) (before : ℕ) (rs rest : List (List Field)) (names : List Field) → begins_with_mark bytes ≡ false → rs ≡ records default_config (strip_bom bytes)
    → rs ≡ names ∷ rest → is_header cols names ≡ true → loaded cols bytes before ≡ rows_from cols 2 before rest
unfolding rows_behind_header
loaded-good cols bytes before rs rest names e h n b = loaded-plain cols bytes before rs e h ∙ rw (n, b) refl

-- ---- one record

pub row-short : (cols : List Column) (n before : ℕ) (fields : List Field) → (length fields ≡ length cols → ⊥) → row_at cols n before fields ≡ Err (FieldCount n)
unfolding row_at
row-short cols n before fields h = grind (arith, nat_tests)

pub row-many : (cols : List Column) (n before : ℕ) (fields : List Field) → length fields ≡ length cols → row_limit ≤ before → row_at cols n before fields ≡ Err TooManyRows
unfolding row_at
row-many cols n before fields h k = grind (arith, nat_tests)

pub row-whole : (cols : List Column) (n before : ℕ) (fields : List Field) → length fields ≡ length cols → before < row_limit → row_at cols n before fields ≡ cells cols n 1 fields
unfolding row_at
row-whole cols n before fields h k = grind (arith, nat_tests)

-- ---- the fields in turn

pub field-there : (fields : List Field) (i : ℕ) → i < length fields → field_at fields i ≡ None → ⊥
unfolding field_at
field-there [] i h e = omega arith
field-there (f ∷ fs) zero h e = cc
field-there (f ∷ fs) (suc i) h e = field-there fs i (omega arith) e

pub cells-end : (cols : List Column) (n c i : ℕ) (fields : List Field) (values : List Value) → length cols ≤ i → with_front values (cells (drop i cols) n c (drop i fields)) ≡ Ok values
unfolding cells
cells-end cols n c i fields values h = rw (drop_all i cols h) (simp append-nil)

-- ---- the header

and-false : (b : Bool) → (b && false) ≡ false
and-false true = refl
and-false false = refl

pub header-length : (cols : List Column) (fields : List Field) → (length fields ≡ length cols → ⊥) → is_header cols fields ≡ false
header-length [] [] h = absurd (h refl)
header-length [] (f ∷ fs) h = refl
header-length (k ∷ ks) [] h = refl
header-length (k ∷ ks) (f ∷ fs) h = rw (header-length ks fs (λ e. h (ap (λ n. suc n) e))) (and-false _)

pub header-step : (cols : List Column) (i : ℕ) (d : Column) (fields : List Field) (f : Field) → i < length cols → d ≡ get_or cols i d → field_at fields i ≡ Some f
    → is_header (drop i cols) (drop i fields) ≡ (is_name d.name f && is_header (drop (i + 1) cols) (drop (i + 1) fields))
header-step cols i d fields f h q e = rw (column-drop cols i d h q, field-drop fields i f e, add-one) refl
