-- Lemmas on counts of pairs.
use Rattle.std.proofs.Common.{◌≡◌, ℕ, ◌+◌, ◌<◌, List, length, drop, slice_index_or, add-one, arith, refl}
use Rattle.std.proofs.Math.Seq.{drop-cons}
use Rattle.std.proofs.lemmas.List.Sums.{sum_by-drop_more}
use Rattle.std.specs.Prelude.{count_by}
use Rattle.rt_value.specs.declared.value.Value.{Value}
use Rattle.rt_schema.specs.Capped.{capped}
use Rattle.rt_schema.specs.Given.{Rows}
use Rattle.rt_schema.specs.Cells.{agree}
use Rattle.rt_schema.specs.LawWork.{key_pairs, foreign_pairs}

-- a count that was capped on the way is capped to the same
capped-step : (next pairs n rest : ℕ) → next ≡ capped (pairs + n) → capped (next + rest) ≡ capped (pairs + (n + rest))
capped-step next pairs n rest e = omega arith

key_pairs-drop : (i : ℕ) (key : List ℕ) (rows : Rows) (row : List Value) → i < length rows → row ≡ slice_index_or rows i row
    → key_pairs key (drop i rows) ≡ count_by (agree key key row) (drop (i + 1) rows) + key_pairs key (drop (i + 1) rows)
key_pairs-drop i key rows row h r = let d = drop-cons rows i row h in rw (d, ← r, add-one i) refl

pub key_pairs-step : (next pairs i n : ℕ) (key : List ℕ) (rows : Rows) (row : List Value) → i < length rows → row ≡ slice_index_or rows i row
    → n ≡ count_by (agree key key row) (drop (i + 1) rows) → next ≡ capped (pairs + n)
    → capped (pairs + key_pairs key (drop i rows)) ≡ capped (key_pairs key rows)
    → capped (next + key_pairs key (drop (i + 1) rows)) ≡ capped (key_pairs key rows)
key_pairs-step next pairs i n key rows row h r c e before =
    let d = key_pairs-drop i key rows row h r in
    let s = capped-step next pairs n (key_pairs key (drop (i + 1) rows)) e in
    cc

foreign_pairs-drop : (i : ℕ) (from to : List ℕ) (others rows : Rows) (row : List Value) → i < length rows → row ≡ slice_index_or rows i row
    → foreign_pairs from to others (drop i rows) ≡ count_by (agree from to row) others + foreign_pairs from to others (drop (i + 1) rows)
foreign_pairs-drop i from to others rows row h r =
    let d = sum_by-drop_more (λ (row : List Value). count_by (agree from to row) others) rows i row h in
    rw (← r) at d

pub foreign_pairs-step : (next pairs i n : ℕ) (from to : List ℕ) (others rows : Rows) (row : List Value) → i < length rows → row ≡ slice_index_or rows i row
    → n ≡ count_by (agree from to row) others → next ≡ capped (pairs + n)
    → capped (pairs + foreign_pairs from to others (drop i rows)) ≡ capped (foreign_pairs from to others rows)
    → capped (next + foreign_pairs from to others (drop (i + 1) rows)) ≡ capped (foreign_pairs from to others rows)
foreign_pairs-step next pairs i n from to others rows row h r c e before =
    let d = foreign_pairs-drop i from to others rows row h r in
    let s = capped-step next pairs n (foreign_pairs from to others (drop (i + 1) rows)) e in
    cc
