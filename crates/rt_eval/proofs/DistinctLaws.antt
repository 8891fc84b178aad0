-- What is left of rows that have been sorted and rid of repeats is the set of the rows.
use Rattle.std.proofs.Common.{◌≡◌, ℕ, zero, suc, ◌<◌, ◌≤◌, Result, Ok, Err, length, get_or, arith, Bool, true, false, ◌&&◌, ◌||◌, List, [], ◌∷◌, refl, sym, ◌∙◌, ap, subst, inl, inr}
use Rattle.std.specs.Prelude.{is_ok}
use Rattle.std.proofs.Math.Dec.{ltb}
use lib.Pointwise.{pointwise}
use Rattle.rt_algebra.proofs.Rows.{and-left, and-right}
use Rattle.rt_split.proofs.Keys.{row_exact, equal_of}
use Rattle.std.proofs.lemmas.Bool.{cases_Bool, ltb-true, ltb-false}
use Rattle.std.proofs.lemmas.List.Folds.{list_any_at, list_any_none}
use Rattle.std.proofs.lemmas.List.Filters.{dedup_is}
use Rattle.std.proofs.lemmas.List.Kept.{IsStrictlySortedBy-dedup}
use Rattle.std.proofs.lemmas.List.Sorted.{list_any-IsPermutation}
use Rattle.std.specs.Cmp.{IsEquivalence}
use Rattle.std.specs.declared.cmp.Ordering.{Ordering}
use Rattle.std.specs.declared.cmp.Ordering.TheVariants.{Less, Equal, Greater}
use Rattle.std.specs.List.{All as Each, list_all, list_any, dedup, dedup_from, AllByRecursion}
use Rattle.std.specs.List.Retain.{IsFiltered, DiffersFromLast}
use Rattle.std.specs.List.Sorted.{IsSorted, IsStrictlySortedBy, IsPermutation, IsNonDecreasingBy, IsSearchInRange, IsBinarySearchResult}
use Rattle.std.specs.Ordering.{is_eq, ordering_reverse, ordering_index}
use Rattle.rt_value.specs.declared.value.Value.{Value}
use Rattle.rt_value.specs.Row.{row_cmp, row_eq}
use Rattle.rt_value.specs.Order.{row_cmp_total, row_ties, row_eq_equiv}
use Rattle.rt_schema.specs.Given.{Rows}
use Rattle.rt_algebra.specs.Answer.{has_row, same_rows}
use Rattle.rt_eval.specs.Distinct.{placed_by, placed, distinct}

-- sameness is equality
ordered_same : (r s : List Value) → row_cmp r s ≡ Equal → r ≡ s
ordered_same r s p = row_exact r s p

row_same : (r s : List Value) → row_eq r s ≡ true → r ≡ s
row_same r s p = row_exact r s (equal_of (row_cmp r s) (sym (row_ties r s) ∙ p))

differ : (r s : List Value) → row_cmp r s ≡ Less → row_eq r s ≡ false
differ r s p = row_ties r s ∙ ap is_eq p

-- a row below all others is not among them
abbrev Below : List Value → Rows → Type 0
Below row rows = AllByRecursion (λ other. row_cmp row other ≡ Less) rows

absent : (row : List Value) (rows : Rows) → Below row rows → has_row rows row ≡ false
absent row [] b = refl
absent row (first ∷ rest) b = let e = differ row first b.0 in rw e (absent row rest b.1)

below_further : (low row : List Value) (rows : Rows) → row_cmp low row ≡ Less → Below row rows → Below low rows
below_further low row [] p b = tt
below_further low row (first ∷ rest) p b = (row_cmp_total.trans low row first p b.0, below_further low row rest p b.1)

turned : (r s : List Value) → row_cmp r s ≡ Greater → row_cmp s r ≡ Less
turned r s p = row_cmp_total.antisymm s r ∙ ap ordering_reverse p

itself : (row : List Value) (rows : Rows) → has_row (row ∷ rows) row ≡ true
itself row rows = let e = row_eq_equiv.refl row in rw e refl

-- two lists in strict order with the same rows are one
unique : (xs ys : Rows) → IsStrictlySortedBy row_cmp xs → IsStrictlySortedBy row_cmp ys → ((r : List Value) → has_row xs r ≡ has_row ys r) → xs ≡ ys
unfolding IsStrictlySortedBy
unique [] [] p q h = refl
unique [] (y ∷ ys) p q h = let e = h y in let i = itself y ys in absurd (cc)
unique (x ∷ xs) [] p q h = let e = h x in let i = itself x xs in absurd (cc)
unique (x ∷ xs) (y ∷ ys) p q h = go (λ f. unique xs ys p.1 q.1 f) (row_cmp x y) refl
  where
    tails : x ≡ y → (r : List Value) → has_row xs r ≡ has_row ys r
    tails e r = elim (cases_Bool (row_eq r x)) [
      | inl s ↦ let same = row_same r x s in
          let left : has_row xs r ≡ false = subst (λ z. has_row xs z ≡ false) (sym same) (absent x xs p.0) in
          let right : has_row ys r ≡ false = subst (λ z. has_row ys z ≡ false) (sym (same ∙ e)) (absent y ys q.0) in
          left ∙ sym right
      | inr s ↦ let t : row_eq r y ≡ false = subst (λ z. row_eq r z ≡ false) e s in rw (s, t) at (h r)
    ]

    go : (((r : List Value) → has_row xs r ≡ has_row ys r) → xs ≡ ys) → (o : Ordering) → row_cmp x y ≡ o → (x ∷ xs) ≡ (y ∷ ys)
    go rest Less e =
        let d = differ x y e in
        let a = absent x ys (below_further x y ys e q.0) in
        let none : has_row (y ∷ ys) x ≡ false = rw d a in
        let one = itself x xs in
        let same = h x in absurd (cc)
    go rest Greater e =
        let f = turned x y e in
        let d = differ y x f in
        let a = absent y xs (below_further y x xs f p.0) in
        let none : has_row (x ∷ xs) y ≡ false = rw d a in
        let one = itself y ys in
        let same = h y in absurd (cc)
    go rest Equal e =
        let first = ordered_same x y e in
        let others = rest (tails first) in cc

-- the set of the rows is in strict order
placed_below : (low row : List Value) (rows : Rows) → row_cmp low row ≡ Less → Below low rows → Below low (placed row rows)
placed_below low row [] p b = (p, tt)
placed_below low row (first ∷ rest) p b = go (placed_below low row rest p b.1) (row_cmp row first)
  where
    go : Below low (placed row rest) → (o : Ordering) → Below low (placed_by o row first rest (placed row rest))
    go further Less = (p, b)
    go further Equal = b
    go further Greater = (b.0, further)

placed_strict : (row : List Value) (rows : Rows) → IsStrictlySortedBy row_cmp rows → IsStrictlySortedBy row_cmp (placed row rows)
unfolding IsStrictlySortedBy
placed_strict row [] s = (tt, tt)
placed_strict row (first ∷ rest) s = go (placed_strict row rest s.1) (row_cmp row first) refl
  where
    go : IsStrictlySortedBy row_cmp (placed row rest) → (o : Ordering) → row_cmp row first ≡ o → IsStrictlySortedBy row_cmp (placed_by o row first rest (placed row rest))
    go further Less e = ((e, below_further row first rest e s.0), s)
    go further Equal e = s
    go further Greater e = (placed_below first row rest (turned row first e) s.0, further)

pub distinct_strict : (rows : Rows) → IsStrictlySortedBy row_cmp (distinct rows)
unfolding IsStrictlySortedBy
distinct_strict [] = tt
distinct_strict (row ∷ rows) = placed_strict row (distinct rows) (distinct_strict rows)

-- and has the same rows
swapped : (a b c : Bool) → (b || (a || c)) ≡ (a || (b || c))
swapped true true c = refl
swapped true false c = refl
swapped false b c = refl

twice : (a b : Bool) → (a || b) ≡ (a || (a || b))
twice true b = refl
twice false b = refl

placed_has : (row : List Value) (rows : Rows) (r : List Value) → has_row (placed row rows) r ≡ (row_eq r row || has_row rows r)
placed_has row [] r = refl
placed_has row (first ∷ rest) r = go (placed_has row rest r) (row_cmp row first) refl
  where
    go : has_row (placed row rest) r ≡ (row_eq r row || has_row rest r) → (o : Ordering) → row_cmp row first ≡ o
        → has_row (placed_by o row first rest (placed row rest)) r ≡ (row_eq r row || (row_eq r first || has_row rest r))
    go others Less e = refl
    go others Equal e = let same = ordered_same row first e in rw same (twice (row_eq r first) (has_row rest r))
    go others Greater e = rw others (swapped (row_eq r row) (row_eq r first) (has_row rest r))

pub distinct_has : (rows : Rows) (r : List Value) → has_row (distinct rows) r ≡ has_row rows r
distinct_has [] r = refl
distinct_has (row ∷ rows) r = let others = distinct_has rows r in placed_has row (distinct rows) r ∙ ap (λ b. row_eq r row || b) others

-- so it has the same rows as another set where the lists have
both : (a b c : Bool) → (b && (a && c)) ≡ (a && (b && c))
both true true c = refl
both true false c = refl
both false true c = refl
both false false c = refl

repeated : (a b : Bool) → (a && b) ≡ (a && (a && b))
repeated true b = refl
repeated false b = refl

placed_all : (p : List Value → Bool) (row : List Value) (rows : Rows) → list_all p (placed row rows) ≡ (p row && list_all p rows)
placed_all p row [] = refl
placed_all p row (first ∷ rest) = go (placed_all p row rest) (row_cmp row first) refl
  where
    go : list_all p (placed row rest) ≡ (p row && list_all p rest) → (o : Ordering) → row_cmp row first ≡ o
        → list_all p (placed_by o row first rest (placed row rest)) ≡ (p row && (p first && list_all p rest))
    go others Less e = refl
    go others Equal e = let same = ordered_same row first e in rw same (repeated (p first) (list_all p rest))
    go others Greater e = rw others (both (p row) (p first) (list_all p rest))

distinct_all : (xs ys : Rows) → list_all (has_row (distinct ys)) (distinct xs) ≡ list_all (has_row ys) xs
distinct_all [] ys = refl
distinct_all (x ∷ xs) ys =
    let others = distinct_all xs ys in
    let first = distinct_has ys x in
    placed_all (has_row (distinct ys)) x (distinct xs) ∙ rw (first, others) refl

pub distinct_same : (xs ys : Rows) → same_rows (distinct xs) (distinct ys) ≡ same_rows xs ys
distinct_same xs ys = let left = distinct_all xs ys in let right = distinct_all ys xs in rw (left, right) refl

-- rows that have been sorted and rid of repeats
module _ {X : Type 0} (E : X → X → Bool) (e : IsEquivalence E) (x : X) where
  any_dedup_from : (k : X) (xs : List X) → list_any (E x) (dedup_from E k xs) ≡ (E x k || list_any (E x) xs)
  any_dedup_from k [] = refl
  any_dedup_from k (y ∷ ys) = elim (cases_Bool (E y k)) [
    | inl h ↦ let s : E x y ≡ E x k = e.symm x y ∙ e.congr y k x h ∙ e.symm k x in rw (h, s) (any_dedup_from k ys ∙ twice (E x k) (list_any (E x) ys))
    | inr h ↦ rw h (ap (λ b. E x k || b) (any_dedup_from y ys))
  ]

  any_dedup : (xs : List X) → list_any (E x) (dedup E xs) ≡ list_any (E x) xs
  any_dedup [] = refl
  any_dedup (k ∷ xs) = any_dedup_from k xs

pub strict : (xs ys : Rows) → IsSorted row_cmp xs → IsFiltered (DiffersFromLast row_eq) [] xs ys → IsStrictlySortedBy row_cmp ys
strict xs ys s f = rw (dedup_is row_eq xs ys f) (IsStrictlySortedBy-dedup row_cmp_total row_ties xs s)

pub same : (rows xs ys : Rows) (r : List Value) → IsPermutation rows xs → IsFiltered (DiffersFromLast row_eq) [] xs ys → has_row ys r ≡ has_row rows r
same rows xs ys r p f = rw (dedup_is row_eq xs ys f) (any_dedup row_eq row_eq_equiv r xs ∙ sym (list_any-IsPermutation (row_eq r) rows xs p))

pub sorted_distinct : (rows xs ys : Rows) → IsPermutation rows xs → IsSorted row_cmp xs → IsFiltered (DiffersFromLast row_eq) [] xs ys → ys ≡ distinct rows
sorted_distinct rows xs ys p s f = unique ys (distinct rows) (strict xs ys s f) (distinct_strict rows) (λ r. same rows xs ys r p f ∙ sym (distinct_has rows r))

-- repeats that are next to each other may go first
pub unrepeated : (rows firsts : Rows) (r : List Value) → IsFiltered (DiffersFromLast row_eq) [] rows firsts → has_row firsts r ≡ has_row rows r
unrepeated rows firsts r f = rw (dedup_is row_eq rows firsts f) (any_dedup row_eq row_eq_equiv r rows)

pub distinct_unrepeated : (rows firsts : Rows) → IsFiltered (DiffersFromLast row_eq) [] rows firsts → distinct firsts ≡ distinct rows
distinct_unrepeated rows firsts f =
    unique (distinct firsts) (distinct rows) (distinct_strict firsts) (distinct_strict rows) (λ r. distinct_has firsts r ∙ unrepeated rows firsts r f ∙ sym (distinct_has rows r))

-- a set is searched by halves
below_all : (row other : List Value) (rows : Rows) → Below row rows → (k : ℕ) → k < length rows → row_cmp row (get_or rows k other) ≡ Less
below_all row other [] b k l = absurd (omega (arith, l))
below_all row other (first ∷ rest) b zero l = b.0
below_all row other (first ∷ rest) b (suc k) l = below_all row other rest b.1 k (omega (arith, l))

index_below : (x y z : List Value) → row_cmp x y ≡ Less → ordering_index (row_cmp x z) ≤ ordering_index (row_cmp y z)
index_below x y z p = go (row_cmp y z) refl
  where
    go : (o : Ordering) → row_cmp y z ≡ o → ordering_index (row_cmp x z) ≤ ordering_index (row_cmp y z)
    go Less e = let same : row_cmp x z ≡ Less = row_cmp_total.trans x y z p e in rw (same, e) (omega arith)
    go Equal e = let same : row_cmp x z ≡ Less = subst (λ w. row_cmp x w ≡ Less) (ordered_same y z e) p in rw (same, e) (omega arith)
    go Greater e = rw e (at_most (row_cmp x z))
      where
        at_most : (o : Ordering) → ordering_index o ≤ 2
        at_most Less = omega arith
        at_most Equal = omega arith
        at_most Greater = omega arith

pub rising : (rows : Rows) (row : List Value) → IsStrictlySortedBy row_cmp rows → IsNonDecreasingBy (λ y. ordering_index (row_cmp y row)) rows
unfolding IsStrictlySortedBy
rising [] row s i j d l m = absurd (omega (arith, m))
rising (first ∷ rest) row s zero zero d l m = omega arith
rising (first ∷ rest) row s zero (suc j) d l m = index_below first (get_or rest j d) row (below_all first d rest s.0 j (omega (arith, m)))
rising (first ∷ rest) row s (suc i) zero d l m = absurd (omega (arith, l))
rising (first ∷ rest) row s (suc i) (suc j) d l m = rising rest row s.1 i j d (omega (arith, l)) (omega (arith, m))

equal_at : (o : Ordering) (y row : List Value) → row_cmp y row ≡ o → row_eq row y ≡ is_eq o
equal_at o y row e = row_eq_equiv.symm row y ∙ row_ties y row ∙ ap is_eq e

pub searched : (rows : Rows) (row : List Value) (r : Result ℕ ℕ) → IsStrictlySortedBy row_cmp rows → IsSearchInRange r (length rows)
    → IsBinarySearchResult (λ y. row_cmp y row) rows r → is_ok r ≡ has_row rows row
searched rows row (Ok i) s l b = sym (list_any_at (row_eq row) rows i row l (equal_at Equal (get_or rows i row) row (b row)))
searched rows row (Err i) s l b =
    let parted = b (rising rows row s) in
    let none : Each (λ y. row_eq row y ≡ false) rows =
    (λ k d m. elim (cases_Bool (ltb k i)) [
      | inl h ↦ equal_at Less (get_or rows k d) row (parted.0 k d (omega arith) (ltb-true k i h))
      | inr h ↦ equal_at Greater (get_or rows k d) row (parted.1 k d (ltb-false k i h) m)
    ]) in
    sym (list_any_none (row_eq row) rows none)

-- two sets are the same where they are equal
among : (xs ys : Rows) (r : List Value) → list_all (has_row ys) xs ≡ true → has_row xs r ≡ true → has_row ys r ≡ true
among [] ys r h k = absurd (cc)
among (x ∷ xs) ys r h k = elim (cases_Bool (row_eq r x)) [
  | inl e ↦ let same = row_same r x e in let P : List Value → Type 0 = λ z. has_row ys z ≡ true in subst P (sym same) (and-left (has_row ys x) _ h)
  | inr e ↦ among xs ys r (and-right (has_row ys x) _ h) (rw e at k)
]

both_ways : (a b : Bool) → (a ≡ true → b ≡ true) → (b ≡ true → a ≡ true) → a ≡ b
both_ways true b f g = sym (f refl)
both_ways false true f g = g refl
both_ways false false f g = refl

all_equal : (xs ys : Rows) → pointwise row_eq xs ys ≡ true → xs ≡ ys
all_equal [] [] h = refl
all_equal [] (y ∷ ys) h = absurd (cc)
all_equal (x ∷ xs) [] h = absurd (cc)
all_equal (x ∷ xs) (y ∷ ys) h = let first = row_same x y (and-left (row_eq x y) _ h) in let rest = all_equal xs ys (and-right (row_eq x y) _ h) in cc

equal_self : (xs : Rows) → pointwise row_eq xs xs ≡ true
equal_self [] = refl
equal_self (x ∷ xs) = let e = row_eq_equiv.refl x in rw e (equal_self xs)

same_self : (xs ys : Rows) → ((r : List Value) → has_row xs r ≡ true → has_row ys r ≡ true) → list_all (has_row ys) xs ≡ true
same_self [] ys h = refl
same_self (x ∷ xs) ys h = let e = h x (itself x xs) in rw e (same_self xs ys (λ r k. h r (further r k)))
  where
    further : (r : List Value) → has_row xs r ≡ true → has_row (x ∷ xs) r ≡ true
    further r k = elim (row_eq r x) as (λ b. (b || has_row xs r) ≡ true) [ true ↦ refl | false ↦ k ]

pub equal_sets : (xs ys : Rows) → IsStrictlySortedBy row_cmp xs → IsStrictlySortedBy row_cmp ys → pointwise row_eq xs ys ≡ same_rows xs ys
equal_sets xs ys s t = both_ways (pointwise row_eq xs ys) (same_rows xs ys)
    (λ h. let e = all_equal xs ys h in let P : Rows → Type 0 = λ zs. same_rows xs zs ≡ true in let self = same_self xs xs (λ r k. k) in subst P e (rw self refl))
    (λ h. let left = and-left (list_all (has_row ys) xs) _ h in
    let right = and-right (list_all (has_row ys) xs) _ h in
    let e = unique xs ys s t (λ r. both_ways (has_row xs r) (has_row ys r) (among xs ys r left) (among ys xs r right)) in
    let P : Rows → Type 0 = λ zs. pointwise row_eq xs zs ≡ true in subst P e (equal_self xs))
