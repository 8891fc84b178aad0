-- Kept rows, one row at a time.
use Rattle.std.proofs.Common.{◌≡◌, ℕ, suc, ◌+◌, ◌<◌, ◌≤◌, ◌-◌, Bool, true, false, cond, not, ◌&&◌, ◌||◌, List, [], ◌∷◌, length, drop, take, take_all, get_or, refl, sym, ap, arith, add-one, ◌∙◌}
use Rattle.std.proofs.Math.Seq.{drop-cons, drop-length}
use Rattle.std.proofs.lemmas.List.{drop-drop}
use Rattle.std.specs.List.{list_all, list_any}
use Rattle.rt_value.specs.declared.value.Value.{Value}
use Rattle.rt_schema.specs.Given.{Rows, Tables}
use Rattle.rt_schema.specs.Kept.{kept, kept_rows}
use Rattle.rt_value.specs.Row.{row_eq}
use Rattle.rt_schema.specs.Cells.{agree, cells, is_null}
use Rattle.rt_schema.specs.Law.{key_holds, foreign_holds}
use Rattle.rt_formula.specs.Shared.{bool_at}
use Rattle.rt_rules.proofs.BoolLemmas.{and-false, and-true}

-- the kept rows from a row on, `base` being the place of the table's first row
abbrev pub since : Rows → ℕ → ℕ → List Bool → Rows
since rows base at keep = kept_rows (drop at rows) (drop (base + at) keep)

pub since-end : (rows : Rows) (base : ℕ) (keep : List Bool) → since rows base (length rows) keep ≡ []
since-end rows base keep = ap (λ rs. kept_rows rs (drop (base + length rows) keep)) (drop-length rows)

pub since-at : (rows : Rows) (base at : ℕ) (row : List Value) (keep : List Bool) → at < length rows → row ≡ get_or rows at row → base + at < length keep
    → since rows base at keep ≡ cond (bool_at keep (base + at)) (row ∷ since rows base (at + 1) keep) (since rows base (at + 1) keep)
since-at rows base at row keep h e k =
    let d : drop at rows ≡ row ∷ drop (at + 1) rows = drop-cons rows at row h ∙ ap (λ r. r ∷ drop (suc at) rows) (sym e) ∙ ap (λ n. row ∷ drop n rows) (sym (add-one at)) in
    let n : suc (base + at) ≡ base + (at + 1) = omega arith in
    let s : drop (base + at) keep ≡ bool_at keep (base + at) ∷ drop (base + (at + 1)) keep = drop-cons keep (base + at) false k ∙ ap (λ m. bool_at keep (base + at) ∷ drop m keep) n in
    ap (λ rs. kept_rows rs (drop (base + at) keep)) d ∙ ap (kept_rows (row ∷ drop (at + 1) rows)) s

pub all-kept : (p : List Value → Bool) (b : Bool) (row : List Value) (rows : Rows) → list_all p (cond b (row ∷ rows) rows) ≡ ((not b || p row) && list_all p rows)
all-kept p true row rows = refl
all-kept p false row rows = refl

pub any-kept : (p : List Value → Bool) (b : Bool) (row : List Value) (rows : Rows) → list_any p (cond b (row ∷ rows) rows) ≡ ((b && p row) || list_any p rows)
any-kept p true row rows = refl
any-kept p false row rows = refl

pub key-kept : (key : List ℕ) (b : Bool) (row : List Value) (rows : Rows) → key_holds key (cond b (row ∷ rows) rows) ≡ (not (b && list_any (agree key key row) rows) && key_holds key rows)
key-kept key true row rows = refl
key-kept key false row rows = refl

-- the rest of the tables begins where a table ends
pub kept-rest : (rows : Rows) (rest : Tables) (base : ℕ) (keep : List Bool) → kept (rows ∷ rest) (drop base keep) ≡ kept_rows rows (drop base keep) ∷ kept rest (drop (base + length rows) keep)
kept-rest rows rest base keep = ap (λ s. kept_rows rows (drop base keep) ∷ kept rest s) (drop-drop (length rows) base keep)

-- a row with NULL among the values agrees with no row
pub no-agree : (from to : List ℕ) (row : List Value) (rows : Rows) → list_any is_null (cells from row) ≡ true → list_any (agree from to row) rows ≡ false
no-agree from to row [] h = refl
no-agree from to row (r ∷ rs) h =
    let rest = no-agree from to row rs h in
    ap (λ x. (row_eq (cells from row) (cells to r) && not x) || list_any (agree from to row) rs) h ∙ ap (λ x. x || list_any (agree from to row) rs) (and-false (row_eq (cells from row) (cells to r))) ∙ rest

-- one without agrees with those that have its values
pub agree-one : (from to : List ℕ) (row r : List Value) → list_any is_null (cells from row) ≡ false → agree from to row r ≡ row_eq (cells from row) (cells to r)
agree-one from to row r h = ap (λ x. row_eq (cells from row) (cells to r) && not x) h ∙ and-true (row_eq (cells from row) (cells to r))

pub agree-same : (from to : List ℕ) (row : List Value) (rows : Rows) → list_any is_null (cells from row) ≡ false → list_any (λ r. row_eq (cells from row) (cells to r)) rows ≡ list_any (agree from to row) rows
agree-same from to row [] h = refl
agree-same from to row (r ∷ rs) h =
    let rest = agree-same from to row rs h in
    ap (λ x. row_eq (cells from row) (cells to r) || x) rest ∙ ap (λ x. x || list_any (agree from to row) rs) (sym (agree-one from to row r h))

pub foreign-kept : (from to : List ℕ) (others : Rows) (b : Bool) (row : List Value) (rows : Rows)
    → foreign_holds from to others (cond b (row ∷ rows) rows) ≡ ((not b || (list_any is_null (cells from row) || list_any (agree from to row) others)) && foreign_holds from to others rows)
foreign-kept from to others true row rows = refl
foreign-kept from to others false row rows = refl

-- a list by its first element and the others
abbrev pub others : {X : Type 0} → List X → List X
others xs = take (length xs - 1) (drop 1 xs)

pub front : {X : Type 0} (xs : List X) (x : X) → 1 ≤ length xs → x ≡ get_or xs 0 x → xs ≡ x ∷ others xs
front [] x h e = absurd (omega arith)
front (y ∷ ys) x h e = ap (λ z. z ∷ ys) (sym e) ∙ ap (λ zs. x ∷ zs) (sym (take_all (length (y ∷ ys) - 1) ys (omega arith)))
