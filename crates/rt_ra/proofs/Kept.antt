-- The kept rows of an instance have as many cells as their tables have columns.
use Rattle.std.proofs.Common.{◌≡◌, ℕ, zero, suc, ◌+◌, Bool, true, false, cond, ◌&&◌, List, [], ◌∷◌, ◌++◌, length, drop, refl, sym, ap, subst, arith}
use Rattle.rt_schema.specs.Given.{Instance, IsOf, Rows, Tables, is_instance, row_suits, rows_at, rows_suit, tables_suit, value_suits}
use Rattle.rt_schema.specs.Kept.{kept, kept_rows}
use Rattle.rt_schema.specs.Schema.{kinds_of, schema_kinds}
use Rattle.rt_schema.specs.declared.table.ColKind.{ColKind}
use Rattle.rt_schema.specs.declared.table.Column.{Column}
use Rattle.rt_schema.specs.declared.table.Table.{Table}
use Rattle.rt_value.specs.declared.value.Value.{Value}
use Rattle.rt_ra.specs.OperatorMeaning.{Fit, Wide}

left : (a b : Bool) → (a && b) ≡ true → a ≡ true
left true b h = refl
left false b h = cc h

right : (a b : Bool) → (a && b) ≡ true → b ≡ true
right true b h = h
right false b h = cc h

suits-length : (kinds : List ColKind) (row : List Value) → row_suits kinds row ≡ true → length row ≡ length kinds
suits-length [] [] h = refl
suits-length [] (x ∷ row) h = cc h
suits-length (k ∷ kinds) [] h = cc h
suits-length (k ∷ kinds) (x ∷ row) h = ap suc (suits-length kinds row (right (value_suits k x) (row_suits kinds row) h))

suit-wide : (kinds : List ColKind) (rows : Rows) → rows_suit kinds rows ≡ true → Wide (length kinds) rows
suit-wide kinds [] h = tt
suit-wide kinds (r ∷ rs) h = (suits-length kinds r (left (row_suits kinds r) (rows_suit kinds rs) h), suit-wide kinds rs (right (row_suits kinds r) (rows_suit kinds rs) h))

kept-wide : (n : ℕ) (rows : Rows) (keep : List Bool) → Wide n rows → Wide n (kept_rows rows keep)
kept-wide n [] keep w = tt
kept-wide n (r ∷ rs) [] w = tt
kept-wide n (r ∷ rs) (b ∷ keep) w = by (kept-wide n rs keep w.1) b
  where
    by : Wide n (kept_rows rs keep) → (b : Bool) → Wide n (cond b (r ∷ kept_rows rs keep) (kept_rows rs keep))
    by rest true = (w.0, rest)
    by rest false = rest

kinds-length : (cs : List Column) → length (kinds_of cs) ≡ length cs
kinds-length [] = refl
kinds-length (c ∷ cs) = ap suc (kinds-length cs)

table-at : (front : Tables) (rows : Rows) (rest : Tables) (at : ℕ) → length front ≡ at → rows_at (front ++ rows ∷ rest) at ≡ rows
table-at [] rows rest zero h = refl
table-at [] rows rest (suc at) h = absurd (omega arith)
table-at (x ∷ front) rows rest zero h = absurd (omega arith)
table-at (x ∷ front) rows rest (suc at) h = table-at front rows rest at (omega arith)

shift-tables : (front : Tables) (rows : Rows) (rest : Tables) → front ++ rows ∷ rest ≡ (front ++ rows ∷ []) ++ rest
shift-tables [] rows rest = refl
shift-tables (x ∷ front) rows rest = ap (λ (l : Tables). x ∷ l) (shift-tables front rows rest)

longer : (front : Tables) (rows : Rows) (at : ℕ) → length front ≡ at → length (front ++ rows ∷ []) ≡ at + 1
longer [] rows at h = omega (arith, h)
longer (x ∷ front) rows zero h = absurd (omega arith)
longer (x ∷ front) rows (suc at) h = let e = longer front rows at (omega arith) in omega (arith, e)

tables-fit : (ts : List Table) (tables : Tables) (keep : List Bool) (front : Tables) (at : ℕ) → length front ≡ at → tables_suit (schema_kinds ts) tables ≡ true → Fit (front ++ kept tables keep) at ts
tables-fit [] tables keep front at f h = tt
tables-fit (t ∷ ts) [] keep front at f h = cc h
tables-fit (t ∷ ts) (rows ∷ tables) keep front at f h =
    let here = suit-wide (kinds_of t.columns) rows (left (rows_suit (kinds_of t.columns) rows) (tables_suit (schema_kinds ts) tables) h) in
    let own = kept-wide (length t.columns) rows keep (subst (λ (n : ℕ). Wide n rows) (kinds-length t.columns) here) in
    let rest = kept tables (drop (length rows) keep) in
    let more = tables-fit ts tables (drop (length rows) keep) (front ++ kept_rows rows keep ∷ []) (at + 1) (longer front (kept_rows rows keep) at f) (right (rows_suit (kinds_of t.columns) rows) (tables_suit (schema_kinds ts) tables) h) in (
      subst (λ (rows : Rows). Wide (length t.columns) rows) (sym (table-at front (kept_rows rows keep) rest at f)) own,
      subst (λ (l : Tables). Fit l (at + 1) ts) (sym (shift-tables front (kept_rows rows keep) rest)) more,
    )

pub kept-fit : (schema : List Table) (given : Instance) (keep : List Bool) → IsOf schema given → is_instance given ≡ true → Fit (kept given.tables keep) 0 schema
kept-fit schema given keep of is =
    tables-fit schema given.tables keep [] 0 refl (subst (λ (ks : List (List ColKind)). tables_suit ks given.tables ≡ true) of (left (tables_suit given.kinds given.tables) _ is))
