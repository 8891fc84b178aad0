-- A binary search among sorted rows finds the rows that are there.
use Rattle.std.proofs.Common.{◌≡◌, ◌<◌, ◌≤◌, ◌∙◌, sym, arith, ℕ, zero, suc, List, [], ◌∷◌, length, get_or, refl, true, false, Bool, Result, Ok, Err, ◌||◌, is_ok, inl, inr, ◌⊎◌}
use Rattle.std.specs.List.{AllByRecursion, AllWithin}
use Rattle.std.specs.List.Sorted.{IsBinarySearchResult, IsNonDecreasingBy, IsSearchInRange, IsStrictlySortedBy}
use Rattle.std.specs.Ordering.{is_eq, ordering_index}
use Rattle.std.specs.declared.cmp.Ordering.{Ordering}
use Rattle.std.specs.declared.cmp.Ordering.TheVariants.{Less, Equal, Greater}
use Rattle.std.proofs.lemmas.Bool.{cases_lt}
use Rattle.rt_value.specs.declared.value.Value.{Value}
use Rattle.rt_value.specs.Row.{row_cmp, row_eq}
use Rattle.rt_value.specs.Order.{row_cmp_total, row_ties}
use Rattle.rt_schema.specs.Given.{Rows}
use Rattle.rt_print.specs.Texts.{has}

-- how a row compares with the row that is looked for
abbrev index : List Value → List Value → ℕ
index row x = ordering_index (row_cmp x row)

-- ---- answers rise along sorted rows

below : (x y : List Value) → row_cmp x y ≡ Greater → row_cmp y x ≡ Less
below x y h = row_cmp_total.antisymm y x ∙ rw h refl

above : (x y : List Value) → row_cmp x y ≡ Less → row_cmp y x ≡ Greater
above x y h = row_cmp_total.antisymm y x ∙ rw h refl

later-of : (x y row : List Value) (a : Ordering) → row_cmp x row ≡ a → row_cmp x y ≡ Less → ordering_index a ≤ index row y
later-of x y row Less e h = omega arith
later-of x y row Equal e h = let g : row_cmp y row ≡ Greater = above row y (sym (row_cmp_total.congr x row y e) ∙ h) in rw g (omega arith)
later-of x y row Greater e h = let g : row_cmp y row ≡ Greater = above row y (row_cmp_total.trans row x y (below x row e) h) in rw g (omega arith)

later : (x y row : List Value) → row_cmp x y ≡ Less → index row x ≤ index row y
later x y row h = later-of x y row (row_cmp x row) refl h

first-below : (x : List Value) (xs : Rows) (j : ℕ) (d : List Value) → AllByRecursion (λ y. row_cmp x y ≡ Less) xs → j < length xs → row_cmp x (get_or xs j d) ≡ Less
first-below x [] j d h l = absurd (omega arith)
first-below x (y ∷ ys) zero d h l = h.0
first-below x (y ∷ ys) (suc j) d h l = first-below x ys j d h.1 (omega arith)

rises : (rows : Rows) (row : List Value) → IsStrictlySortedBy row_cmp rows → IsNonDecreasingBy (λ y. ordering_index (row_cmp y row)) rows
unfolding IsStrictlySortedBy
rises [] row s i j d h l = absurd (omega arith)
rises (x ∷ xs) row s zero zero d h l = omega arith
rises (x ∷ xs) row s zero (suc j) d h l = later x (get_or xs j d) row (first-below x xs j d s.0 (omega arith))
rises (x ∷ xs) row s (suc i) zero d h l = absurd (omega arith)
rises (x ∷ xs) row s (suc i) (suc j) d h l = rises xs row s.1 i j d (omega arith) (omega arith)

-- ---- what is there, and what isn't

or-true : (a b : Bool) → b ≡ true → (a || b) ≡ true
or-true true b h = refl
or-true false b h = h

there : (rows : Rows) (row : List Value) (k : ℕ) → k < length rows → row_cmp (get_or rows k row) row ≡ Equal → has rows row ≡ true
there [] row k l h = absurd (omega arith)
there (x ∷ xs) row zero l h = rw (row_ties x row, h) refl
there (x ∷ xs) row (suc k) l h = or-true (row_eq x row) (has xs row) (there xs row k (omega arith) h)

lacks : (rows : Rows) (row : List Value) → ((k : ℕ) → k < length rows → is_eq (row_cmp (get_or rows k row) row) ≡ false) → has rows row ≡ false
lacks [] row h = refl
lacks (x ∷ xs) row h = let e : row_eq x row ≡ false = row_ties x row ∙ h 0 (omega arith) in rw e (lacks xs row (λ k l. h (suc k) (omega arith)))

not-equal : (a : Ordering) → (a ≡ Less) ⊎ (a ≡ Greater) → is_eq a ≡ false
not-equal a (inl e) = rw e refl
not-equal a (inr e) = rw e refl

parted : (rows : Rows) (row : List Value) (i k : ℕ) → AllWithin (λ y. row_cmp y row ≡ Less) rows 0 i → AllWithin (λ y. row_cmp y row ≡ Greater) rows i (length rows) → k < length rows
    → is_eq (row_cmp (get_or rows k row) row) ≡ false
parted rows row i k h g l = elim (cases_lt k i) [ inl b ↦ not-equal _ (inl (h k row (omega arith) b)) | inr b ↦ not-equal _ (inr (g k row b l)) ]

pub found : (rows : Rows) (row : List Value) (r : Result ℕ ℕ) → IsStrictlySortedBy row_cmp rows → IsSearchInRange r (length rows) → IsBinarySearchResult (λ y. row_cmp y row) rows r → is_ok r ≡ has rows row
found rows row (Ok k) s l b = sym (there rows row k l (b row))
found rows row (Err i) s l b = let p = b (rises rows row s) in sym (lacks rows row (λ k m. parted rows row i k p.0 p.1 m))
