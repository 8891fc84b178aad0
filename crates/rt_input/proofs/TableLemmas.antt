-- Reading tables one after another, and how many rows they have.
use Rattle.std.proofs.Common.{◌≡◌, ℕ, zero, suc, ◌+◌, ◌<◌, ◌≤◌, List, [], ◌∷◌, ◌++◌, length, take, drop, get_or, Bool, true, false, Result, Ok, Err, refl, sym, ap, subst, ◌∙◌, arith, add-zero, if◌then◌else◌, nat_lt, slice_set, replicate}
use Rattle.std.specs.Prelude.{Some, slice_get, ◌==◌}
use Rattle.std.proofs.Math.Seq.{drop-cons}
use Rattle.std.proofs.lemmas.Bool.Decides.{nat_tests}
use Rattle.std.proofs.lemmas.List.{take-append-drop, length-take-le, take_more}
use Rattle.rt_schema.specs.declared.table.Column.{Column}
use Rattle.rt_schema.specs.declared.table.Table.{Table}
use Rattle.rt_schema.specs.Given.{Rows, Tables, rows_at, places, row_limit}
use Rattle.rt_schema.proofs.GivenLemmas.{places-set}
use Rattle.rt_load.specs.declared.fault.LoadFault.{LoadFault}
use Rattle.rt_load.specs.declared.fault.LoadFault.TheVariants.{BadHeader, FieldCount, TooManyRows}
use Rattle.rt_load.specs.Loaded.{Field, begins_with_mark, cells, columns_at, is_header, loaded, row_at, rows_behind_header, rows_from, ◌>>=◌}
use Rattle.rt_input.specs.declared.source.Source.{Source}
use Rattle.rt_input.specs.declared.outcome.Outcome.{Outcome}
use Rattle.rt_input.specs.declared.part.Part.TheVariants as part
use Rattle.rt_input.specs.Faults.{load_outcome, or_outcome}
use Rattle.rt_input.specs.Judged.{then_read, table_judged, tables_judged}
use Rattle.rt_input.specs.Held.{Holding, text_of}
use Rattle.rt_input.proofs.StepLemmas.{then_ok}

-- ---- the rows of a file

-- a fact for the value of a loading
abbrev OfOk : {T : Type 0} → (T → Type 0) → Result T LoadFault → Type 0
OfOk P (Ok x) = P x
OfOk P (Err e) = Unit {0}

then-ok : {T U : Type 0} (P : T → Type 0) (Q : U → Type 0) (r : Result T LoadFault) (f : T → Result U LoadFault)
    → OfOk P r → ((x : T) → P x → OfOk Q (f x)) → OfOk Q (r >>= f)
then-ok P Q (Ok x) f p q = q x p
then-ok P Q (Err e) f p q = tt

always : {T : Type 0} (r : Result T LoadFault) (P : Type 0) → P → OfOk (λ x. P) r
always (Ok x) P p = p
always (Err e) P p = tt

room-if : (columns : List Column) (n before : ℕ) (fields : List Field) (a b : Bool) → nat_lt before row_limit ≡ b
    → OfOk (λ row. before < row_limit) (if a then (if b then cells columns n 1 fields else Err TooManyRows) else Err (FieldCount n))
room-if columns n before fields true true h = always (cells columns n 1 fields) (before < row_limit) (grind (arith, nat_tests))
room-if columns n before fields true false h = tt
room-if columns n before fields false b h = tt

row-room : (columns : List Column) (n before : ℕ) (fields : List Field) → OfOk (λ row. before < row_limit) (row_at columns n before fields)
unfolding row_at
row-room columns n before fields = room-if columns n before fields (length fields == length columns) (nat_lt before row_limit) refl

-- there is room for the rows
abbrev HaveRoom : ℕ → Rows → Type 0
HaveRoom before rows = before ≤ row_limit → before + length rows ≤ row_limit

rows-room : (columns : List Column) (n before : ℕ) (rs : List (List Field)) → OfOk (HaveRoom before) (rows_from columns n before rs)
unfolding rows_from
rows-room columns n before [] = λ h. omega arith
rows-room columns n before (r ∷ rs) =
    then-ok (λ row. before < row_limit) (HaveRoom before) (row_at columns n before r) _ (row-room columns n before r)
    (λ row s. then-ok (HaveRoom (before + 1)) (HaveRoom before) (rows_from columns (n + 1) (before + 1) rs) _ (rows-room columns (n + 1) (before + 1) rs)
    (λ rows more h. let w = more (omega (arith, s)) in omega (arith, w)))

behind-if : (columns : List Column) (before : ℕ) (rs : List (List Field)) (b : Bool) → OfOk (HaveRoom before) (if b then rows_from columns 2 before rs else Err BadHeader)
behind-if columns before rs true = rows-room columns 2 before rs
behind-if columns before rs false = tt

behind-room : (columns : List Column) (before : ℕ) (rs : List (List Field)) → OfOk (HaveRoom before) (rows_behind_header columns before rs)
unfolding rows_behind_header
behind-room columns before [] = tt
behind-room columns before (h ∷ rs) = behind-if columns before rs (is_header columns h)

marked-if : (b : Bool) (before : ℕ) (r : Result Rows LoadFault) → OfOk (HaveRoom before) r → OfOk (HaveRoom before) (if b then Err BadHeader else r)
marked-if true before r h = tt
marked-if false before r h = h

loaded-room : (columns : List Column) (bytes : List ℕ) (before : ℕ) → OfOk (HaveRoom before) (loaded columns bytes before)
unfolding loaded
loaded-room columns bytes before = marked-if (begins_with_mark bytes) before _ (behind-room columns before _)

-- after one more table there are few rows still
pub few_after : (columns : List Column) (bytes : List ℕ) (tables : Tables) (at : ℕ) (rows : Rows) → loaded columns bytes (places tables) ≡ Ok rows
    → places tables ≤ row_limit → at < length tables → length (rows_at tables at) ≡ 0 → places (slice_set tables at rows) ≤ row_limit
few_after columns bytes tables at rows is few within empty =
    let room = subst (OfOk (HaveRoom (places tables))) is (loaded-room columns bytes (places tables)) in
    let more = room few in
    omega (arith, more, places-set at rows tables within empty)

-- ---- the table with a number

pub columns_at-get : (schema : List Table) (at : ℕ) (t : Table) → slice_get schema at ≡ Some t → columns_at schema at ≡ t.columns
columns_at-get [] at t h = cc
columns_at-get (u ∷ us) zero t h = ap (λ x. x.columns) (let e : u ≡ t = cc in e)
columns_at-get (u ∷ us) (suc at) t h = columns_at-get us at t h

pub get-within : (schema : List Table) (at : ℕ) (t : Table) → slice_get schema at ≡ Some t → at < length schema
get-within [] at t h = absurd (cc)
get-within (u ∷ us) zero t h = omega arith
get-within (u ∷ us) (suc at) t h = omega (arith, get-within us at t h)

-- what the text of a table gives
pub table_read : (source : Source) (held : Holding) (at : ℕ) (table : Table) (name text : List ℕ) (before : ℕ) (columns : List Column) (r : Result Rows LoadFault)
    → name ≡ table.name → columns ≡ table.columns → text_of source held (part.Table at name) ≡ Ok text → loaded columns text before ≡ r
    → table_judged source held at table before ≡ or_outcome (load_outcome (part.Table at table.name)) r
table_read source held at table name text before columns r n k t l =
    then_ok _ text _ _ (ap (λ m. text_of source held (part.Table at m)) (sym n) ∙ t)
    (ap (λ c. or_outcome (load_outcome (part.Table at table.name)) (loaded c text before)) (sym k) ∙ ap (or_outcome (load_outcome (part.Table at table.name))) l)

-- ---- one table after the other

pub tables_judged-append : (source : Source) (held : Holding) (at : ℕ) (so_far : Tables) (xs ys : List Table)
    → tables_judged source held at so_far (xs ++ ys) ≡ then_read (tables_judged source held at so_far xs) (λ tables. tables_judged source held (at + length xs) tables ys)
tables_judged-append source held at so_far [] ys = ap (λ k. tables_judged source held k so_far ys) (sym (add-zero at))
tables_judged-append source held at so_far (x ∷ xs) ys =
    let same : (at + 1) + length xs ≡ at + length (x ∷ xs) = omega arith in
    elim (table_judged source held at x (places so_far)) as (λ r. then_read r (λ rows. tables_judged source held (at + 1) (slice_set so_far at rows) (xs ++ ys))
    ≡ then_read (then_read r (λ rows. tables_judged source held (at + 1) (slice_set so_far at rows) xs)) (λ tables. tables_judged source held (at + length (x ∷ xs)) tables ys)) [
      | Ok rows ↦ subst (λ (k : ℕ). tables_judged source held (at + 1) (slice_set so_far at rows) (xs ++ ys)
          ≡ then_read (tables_judged source held (at + 1) (slice_set so_far at rows) xs) (λ tables. tables_judged source held k tables ys)) same
          (tables_judged-append source held (at + 1) (slice_set so_far at rows) xs ys)
      | Err e ↦ refl
    ]

-- after the tables before this place: this one, and then the rest
tables_judged-from : (source : Source) (held : Holding) (start : Tables) (schema : List Table) (at : ℕ) (tables : Tables) (rest : List Table)
    → at ≤ length schema → tables_judged source held 0 start (take at schema) ≡ Ok tables
    → tables_judged source held 0 start (take at schema ++ rest) ≡ tables_judged source held at tables rest
tables_judged-from source held start schema at tables rest within so_far =
    let len : 0 + length (take at schema) ≡ at = omega (arith, length-take-le at schema within) in
    tables_judged-append source held 0 start (take at schema) rest
    ∙ ap (λ r. then_read r (λ ts. tables_judged source held (0 + length (take at schema)) ts rest)) so_far
    ∙ ap (λ k. tables_judged source held k tables rest) len

-- one more table
pub tables_judged-more : (source : Source) (held : Holding) (start : Tables) (schema : List Table) (at : ℕ) (tables : Tables) (table : Table) (rows : Rows)
    → at < length schema → table ≡ get_or schema at table → tables_judged source held 0 start (take at schema) ≡ Ok tables
    → table_judged source held at table (places tables) ≡ Ok rows
    → tables_judged source held 0 start (take (at + 1) schema) ≡ Ok (slice_set tables at rows)
tables_judged-more source held start schema at tables table rows within is so_far read =
    let upto : at ≤ length schema = omega arith in
    ap (tables_judged source held 0 start) (take_more schema at table within)
    ∙ tables_judged-from source held start schema at tables (get_or schema at table ∷ []) upto so_far
    ∙ ap (λ x. tables_judged source held at tables (x ∷ [])) (sym is)
    ∙ ap (λ r. then_read r (λ rows. Ok (slice_set tables at rows))) read

-- the table at which the reading stops
pub tables_judged-stops : (source : Source) (held : Holding) (start : Tables) (schema : List Table) (at : ℕ) (tables : Tables) (table : Table) (o : Outcome)
    → at < length schema → table ≡ get_or schema at table → tables_judged source held 0 start (take at schema) ≡ Ok tables
    → table_judged source held at table (places tables) ≡ Err o → tables_judged source held 0 start schema ≡ Err o
tables_judged-stops source held start schema at tables table o within is so_far stops =
    let upto : at ≤ length schema = omega arith in
    ap (tables_judged source held 0 start) (sym (take-append-drop at schema))
    ∙ tables_judged-from source held start schema at tables (drop at schema) upto so_far
    ∙ ap (tables_judged source held at tables) (drop-cons schema at table within)
    ∙ ap (λ x. tables_judged source held at tables (x ∷ drop (suc at) schema)) (sym is)
    ∙ ap (λ r. then_read r (λ rows. tables_judged source held (at + 1) (slice_set tables at rows) (drop (suc at) schema))) stops

-- ---- tables without rows

pub no_rows-at : (n k : ℕ) → length (rows_at (replicate n []) k) ≡ 0
no_rows-at zero k = refl
no_rows-at (suc n) zero = refl
no_rows-at (suc n) (suc k) = no_rows-at n k

pub rows_at-set_other : (tables : Tables) (at k : ℕ) (rows : Rows) → at < k → rows_at (slice_set tables at rows) k ≡ rows_at tables k
rows_at-set_other [] at k rows h = refl
rows_at-set_other (t ∷ ts) zero zero rows h = absurd (omega arith)
rows_at-set_other (t ∷ ts) zero (suc k) rows h = refl
rows_at-set_other (t ∷ ts) (suc at) zero rows h = absurd (omega arith)
rows_at-set_other (t ∷ ts) (suc at) (suc k) rows h = rows_at-set_other ts at k rows (omega arith)
