-- A choice of rows and its places.
use Rattle.std.proofs.Common.{◌≡◌, ◌≢◌, ◌∙◌, ℕ, zero, suc, ◌+◌, ◌^◌, ◌<◌, ◌≤◌, Bool, true, false, ◌||◌, ◌&&◌, cond, nat_eq, List, [], ◌∷◌, ◌++◌, filter, take, length, get_or, set, slice_index_or, refl, sym, ap, arith, rules, inl, inr, get_or-set_same, get_or-set_other}
use Rattle.std.specs.List.{AllByRecursion as Each, range_with_len}
use Rattle.std.specs.List.Sorted.{IsStrictlyIncreasing}
use Rattle.std.proofs.lemmas.Bool.{cases_eq}
use Rattle.std.proofs.lemmas.List.{append-nil, take_more}
use Rattle.std.proofs.lemmas.List.Elements.{filter-append}
use Rattle.std.proofs.lemmas.List.Folds.{list_any-append}
use Rattle.std.proofs.lemmas.List.FromFn.{fill_by_all, get_or-range_with_len, length-map-range_with_len, length-range_with_len}
use Rattle.std.proofs.lemmas.List.Kept.{IsStrictlyIncreasing-filter}
use Rattle.std.proofs.lemmas.Map.Views.{any-filter_same}
use Rattle.rt_recorder.specs.Certificate.{ArePlaces, IsNumber}
use Rattle.rt_cert.specs.Places.{has_place, keep_of, places_of}

-- ---- a row more

range-last : (a n j : ℕ) → a + n ≡ j → range_with_len a (suc n) ≡ range_with_len a n ++ j ∷ []
range-last a zero j e = let same : a ≡ j = omega (arith, e) in ap (λ k. k ∷ []) same
range-last a (suc n) j e = ap (λ (l : List ℕ). a ∷ l) (range-last (a + 1) n j (omega (arith, e)))

range-more : (n : ℕ) → range_with_len 0 (n + 1) ≡ range_with_len 0 n ++ n ∷ []
range-more n = let on : n + 1 ≡ suc n = omega arith in let z : 0 + n ≡ n = omega arith in ap (range_with_len 0) on ∙ range-last 0 n n z

pub kept-more : (p : ℕ → Bool) (n : ℕ) → p n ≡ true → filter p (range_with_len 0 (n + 1)) ≡ filter p (range_with_len 0 n) ++ n ∷ []
kept-more p n h = ap (filter p) (range-more n) ∙ filter-append p (range_with_len 0 n) (n ∷ []) ∙ ap (λ b. filter p (range_with_len 0 n) ++ cond b (n ∷ []) []) h

pub kept-same : (p : ℕ → Bool) (n : ℕ) → p n ≡ false → filter p (range_with_len 0 (n + 1)) ≡ filter p (range_with_len 0 n)
kept-same p n h = ap (filter p) (range-more n) ∙ filter-append p (range_with_len 0 n) (n ∷ []) ∙ ap (λ b. filter p (range_with_len 0 n) ++ cond b (n ∷ []) []) h ∙ append-nil _

-- ---- from places to a choice

has-more : (ps : List ℕ) (i row : ℕ) → i < length ps → has_place (take (i + 1) ps) row ≡ (has_place (take i ps) row || nat_eq row (get_or ps i 0))
has-more ps i row h =
    ap (λ (l : List ℕ). has_place l row) (take_more ps i 0 h) ∙ list_any-append (nat_eq row) (take i ps) (get_or ps i 0 ∷ []) ∙ ap (λ b. has_place (take i ps) row || b) (or-none (nat_eq row (get_or ps i 0)))
  where
    or-none : (b : Bool) → (b || false) ≡ b
    or-none true = refl
    or-none false = refl

nat_eq-same : (n : ℕ) → nat_eq n n ≡ true
nat_eq-same n = search rules

nat_eq-other : (m n : ℕ) → m ≢ n → nat_eq m n ≡ false
nat_eq-other m n h = search rules

-- one place more is kept
pub keep-more : (rows i : ℕ) (ps : List ℕ) (keep : List Bool) → length keep ≡ rows → get_or ps i 0 < rows → i < length ps → ((row : ℕ) → row < rows → slice_index_or keep row false ≡ has_place (take i ps) row)
    → (row : ℕ) → row < rows → slice_index_or (set keep (get_or ps i 0) true) row false ≡ has_place (take (i + 1) ps) row
keep-more rows i ps keep long low within before row inside =
    let p : ℕ = get_or ps i 0 in
    elim (cases_eq row p) [
      | inl same ↦ (let here : slice_index_or (set keep p true) row false ≡ true = ap (λ n. slice_index_or (set keep p true) n false) same ∙ get_or-set_same keep p true false (omega (arith, long, low)) in
          let there : nat_eq row p ≡ true = ap (λ n. nat_eq n p) same ∙ nat_eq-same p in
          here ∙ sym (has-more ps i row within ∙ ap (λ b. has_place (take i ps) row || b) there ∙ or-true (has_place (take i ps) row)))
      | inr apart ↦ (let stays : slice_index_or (set keep p true) row false ≡ slice_index_or keep row false = get_or-set_other keep p row true false apart in
          stays ∙ before row inside ∙ sym (has-more ps i row within ∙ ap (λ b. has_place (take i ps) row || b) (nat_eq-other row p apart) ∙ or-false (has_place (take i ps) row)))
    ]
  where
    or-true : (b : Bool) → (b || true) ≡ true
    or-true true = refl
    or-true false = refl

    or-false : (b : Bool) → (b || false) ≡ b
    or-false true = refl
    or-false false = refl

-- a choice that keeps just these places
pub keep-is : (rows : ℕ) (ps : List ℕ) (keep : List Bool) → length keep ≡ rows → ((row : ℕ) → row < rows → slice_index_or keep row false ≡ has_place ps row) → keep ≡ keep_of rows ps
keep-is rows ps keep long kept = fill_by_all (has_place ps) keep rows false long kept

pub keep-long : (rows : ℕ) (ps : List ℕ) → length (keep_of rows ps) ≡ rows
keep-long rows ps = length-map-range_with_len (has_place ps) 0 rows

-- ---- from a choice to its places

has-range : (a n row : ℕ) → a ≤ row → row < a + n → has_place (range_with_len a n) row ≡ true
has-range a zero row low high = absurd (omega (arith, low, high))
has-range a (suc n) row low high = elim (cases_eq row a) [
  | inl same ↦ ap (λ b. b || has_place (range_with_len (a + 1) n) row) (ap (λ x. nat_eq x a) same ∙ nat_eq-same a)
  | inr apart ↦ ap (λ b. b || has_place (range_with_len (a + 1) n) row) (nat_eq-other row a apart) ∙ has-range (a + 1) n row (omega (arith, low, apart)) (omega (arith, high))
]

has-kept : (keep : List Bool) (row : ℕ) → row < length keep → slice_index_or keep row false ≡ has_place (places_of keep) row
has-kept keep row h =
    let p : ℕ → Bool = λ r. slice_index_or keep r false in
    let z : 0 ≤ row = omega arith in
    let w : row < 0 + length keep = omega (arith, h) in
    sym (any-filter_same (nat_eq row) p (p row) (λ k e. ap p (sym (nat_eq-is row k e))) (range_with_len 0 (length keep))
    ∙ ap (λ b. p row && b) (has-range 0 (length keep) row z w) ∙ and-true (p row))
  where
    and-true : (b : Bool) → (b && true) ≡ b
    and-true true = refl
    and-true false = refl

    nat_eq-is : (m n : ℕ) → nat_eq m n ≡ true → m ≡ n
    nat_eq-is m n h = search rules

-- the choice of the places that a choice keeps is that choice
pub keep-back : (keep : List Bool) → keep_of (length keep) (places_of keep) ≡ keep
keep-back keep = sym (keep-is (length keep) (places_of keep) keep refl (has-kept keep))

range-rising : (n : ℕ) → IsStrictlyIncreasing (range_with_len 0 n)
range-rising n k h =
    let long = length-range_with_len 0 n in
    let a = get_or-range_with_len 0 n k 0 (omega (arith, h, long)) in
    let b = get_or-range_with_len 0 n (k + 1) 0 (omega (arith, h, long)) in
    omega (arith, a, b)

range-small : (a n m : ℕ) → a + n ≤ m → Each (λ x. x < m) (range_with_len a n)
range-small a zero m h = tt
range-small a (suc n) m h = (omega (arith, h), range-small (a + 1) n m (omega (arith, h)))

each-filter : (P : ℕ → Type 0) (p : ℕ → Bool) (xs : List ℕ) → Each P xs → Each P (filter p xs)
each-filter P p [] h = h
each-filter P p (x ∷ xs) h = by (p x) (each-filter P p xs h.1) where
  by : (b : Bool) → Each P (filter p xs) → Each P (cond b (x ∷ filter p xs) (filter p xs))
  by true r = (h.0, r)
  by false r = r

length-filter : (p : ℕ → Bool) (xs : List ℕ) → length (filter p xs) ≤ length xs
length-filter p [] = omega arith
length-filter p (x ∷ xs) = by (p x) (length-filter p xs) where
  by : (b : Bool) → length (filter p xs) ≤ length xs → length (cond b (x ∷ filter p xs) (filter p xs)) ≤ suc (length xs)
  by true r = omega (arith, r)
  by false r = omega (arith, r)

-- each is one of a row
pub places-below : (keep : List Bool) → Each (λ place. place < length keep) (places_of keep)
places-below keep = each-filter (λ place. place < length keep) (λ r. slice_index_or keep r false) (range_with_len 0 (length keep)) (range-small 0 (length keep) (length keep) (omega arith))

-- they can be written in a certificate
pub places-fit : (keep : List Bool) → length keep < 2 ^ 62 → ArePlaces (places_of keep)
places-fit keep h =
    let p : ℕ → Bool = λ r. slice_index_or keep r false in
    let all = range_with_len 0 (length keep) in
    record {
      few = (let f = length-filter p all in let l = length-range_with_len 0 (length keep) in omega (arith, f, l, h));
      small = each-filter IsNumber p all (range-small 0 (length keep) (2 ^ 62) (omega (arith, h)));
      rising = IsStrictlyIncreasing-filter p all (range-rising (length keep));
    }
