-- Which of two choices comes before the other, and how many of the first rows they keep.
use Rattle.std.proofs.Common.{◌≡◌, ℕ, zero, suc, ◌+◌, ◌<◌, ◌≤◌, nat_lt, Bool, true, false, cond, ◌⊎◌, inl, inr, List, [], ◌∷◌, length, slice_index_or, refl, sym, ap, subst, ◌∙◌, arith, rules}
use Rattle.rt_value.specs.Keep.{size, ComesBefore}
use Rattle.rt_clause.specs.Gates.{AgreeBelow}
use Rattle.rt_clause.proofs.Bools.{bool-cases}
use Rattle.rt_totalizer.specs.Cells.{kept_below}
use Rattle.rt_totalizer.proofs.Totals.{kept-agrees, kept-size}
use Rattle.rt_least.specs.Order.{IsBare}

clash : {b : Bool} → b ≡ true → b ≡ false → ⊥
clash p q = cc

index-past : (xs : List Bool) (v : ℕ) → length xs ≤ v → slice_index_or xs v false ≡ false
index-past [] v h = refl
index-past (x ∷ xs) zero h = absurd (omega arith)
index-past (x ∷ xs) (suc v) h = index-past xs v (omega arith)

-- a place that is kept is one of the places
pub index-within : (xs : List Bool) (v : ℕ) → slice_index_or xs v false ≡ true → v < length xs
index-within xs v h = elim (bool-cases (nat_lt v (length xs))) [
  | inl y ↦ search rules
  | inr y ↦ absurd (let p : length xs ≤ v = search rules in clash h (index-past xs v p))
]

pub kept-on : (q : ℕ) (xs : List Bool) → slice_index_or xs q false ≡ true → kept_below (suc q) xs ≡ kept_below q xs + 1
kept-on q xs h = ap (λ b. cond b (kept_below q xs + 1) (kept_below q xs)) h

pub kept-off : (q : ℕ) (xs : List Bool) → slice_index_or xs q false ≡ false → kept_below (suc q) xs ≡ kept_below q xs
kept-off q xs h = ap (λ b. cond b (kept_below q xs + 1) (kept_below q xs)) h

kept-step : (q : ℕ) (xs : List Bool) → kept_below q xs ≤ kept_below (suc q) xs
kept-step q xs = elim (bool-cases (slice_index_or xs q false)) [
  | inl y ↦ (let e = kept-on q xs y in omega (arith, e))
  | inr y ↦ (let e = kept-off q xs y in omega (arith, e))
]

kept-more : (p q : ℕ) (xs : List Bool) → p ≤ q → kept_below p xs ≤ kept_below q xs
kept-more p zero xs h = let e : p ≡ 0 = omega (arith, h) in let P : ℕ → Type 0 = λ k. kept_below k xs ≤ kept_below 0 xs in subst P (sym e) (omega arith)
kept-more p (suc q) xs h = elim (bool-cases (nat_lt q p)) [
  | inl y ↦ (let b : q < p = search rules in let e : p ≡ suc q = omega (arith, h, b) in let P : ℕ → Type 0 = λ k. kept_below k xs ≤ kept_below (suc q) xs in subst P (sym e) (omega arith))
  | inr y ↦ (let b : p ≤ q = search rules in let a = kept-more p q xs b in let s = kept-step q xs in omega (arith, a, s))
]

pub kept-none : (p q : ℕ) (xs : List Bool) → p ≤ q → IsBare p q xs → kept_below q xs ≡ kept_below p xs
kept-none p zero xs h b = let e : p ≡ 0 = omega (arith, h) in ap (λ k. kept_below k xs) (sym e)
kept-none p (suc q) xs h b = elim (bool-cases (nat_lt q p)) [
  | inl y ↦ (let c : q < p = search rules in let e : p ≡ suc q = omega (arith, h, c) in ap (λ k. kept_below k xs) (sym e))
  | inr y ↦ (let c : p ≤ q = search rules in kept-off q xs (b q c (omega arith)) ∙ kept-none p q xs c (λ v l r. b v l (let s : v < suc q = omega (arith, r) in s)))
]

-- a choice that agrees with another one up to a place and then keeps a row keeps one row more
pub kept-some : (p d q : ℕ) (xs ys : List Bool) → AgreeBelow p xs ys → p ≤ d → d < q → slice_index_or xs d false ≡ true → kept_below p ys + 1 ≤ kept_below q xs
kept-some p d q xs ys a l h k =
    let same = kept-agrees p xs ys a in
    let low = kept-more p d xs l in
    let here = kept-on d xs k in
    let high = kept-more (suc d) q xs (omega arith) in
    omega (arith, same, low, here, high)

-- and one that keeps no row more has none there
bare-of : (p q : ℕ) (xs ys : List Bool) → AgreeBelow p xs ys → kept_below q xs < kept_below p ys + 1 → IsBare p q xs
bare-of p q xs ys a h v l r = elim (bool-cases (slice_index_or xs v false)) [
  | inl y ↦ absurd (let k = kept-some p v q xs ys a l r y in omega (arith, k, h))
  | inr y ↦ y
]

-- one place that is left out
pub bare-one : (p : ℕ) (xs : List Bool) → slice_index_or xs p false ≡ false → IsBare p (p + 1) xs
bare-one p xs h v l r = let q : v ≡ p = omega (arith, l, r) in ap (λ i. slice_index_or xs i false) q ∙ h

-- two choices that agree up to a place and keep no row from there to another agree up to that one
pub agree-bare : (p q : ℕ) (xs ys : List Bool) → AgreeBelow p xs ys → IsBare p q xs → IsBare p q ys → AgreeBelow q xs ys
agree-bare p q xs ys a b c v h = elim (bool-cases (nat_lt v p)) [
  | inl y ↦ a v (search rules)
  | inr y ↦ (let l : p ≤ v = search rules in b v l h ∙ sym (c v l h))
]

-- where all rows that are kept are below a place, none is from there on
pub rest-bare : (p : ℕ) (xs : List Bool) → size xs ≤ kept_below p xs → IsBare p (length xs) xs
rest-bare p xs h = let s = kept-size xs in bare-of p (length xs) xs xs (λ v l. refl) (omega (arith, h, s))

-- the first row kept from one place to before another
pub record HasFirst (p q : ℕ) (xs : List Bool) : Type 0 where
  pub place : ℕ
  pub from : p ≤ place
  pub before : place < q
  pub kept : slice_index_or xs place false ≡ true
  pub bare : IsBare p place xs

-- the place at which a choice comes before another is one of its places
pub before-place : (keep other : List Bool) → (b : ComesBefore keep other) → b.place < length keep
before-place keep other b = index-within keep b.place b.keeps

-- a choice that comes before one that it agrees with up to a place does so at that place or later
pub before-from : (p : ℕ) (keep other : List Bool) → AgreeBelow p keep other → (b : ComesBefore keep other) → p ≤ b.place
before-from p keep other a b = elim (bool-cases (nat_lt b.place p)) [
  | inl y ↦ absurd (let h : b.place < p = search rules in clash b.keeps (a b.place h ∙ b.leaves))
  | inr y ↦ search rules
]

-- and where the other one keeps that place, it does too
pub before-keeps : (p : ℕ) (keep other : List Bool) → AgreeBelow p keep other → slice_index_or other p false ≡ true → ComesBefore keep other → slice_index_or keep p false ≡ true
before-keeps p keep other a here b =
    let f = before-from p keep other a b in
    elim (bool-cases (nat_lt p b.place)) [
      | inl y ↦ b.same p (search rules) ∙ here
      | inr y ↦ absurd (let h : b.place ≤ p = search rules in let q : b.place ≡ p = omega (arith, h, f) in clash (ap (λ i. slice_index_or other i false) q ∙ here) b.leaves)
    ]

-- where two agree up to a place and the other one keeps no row from there on, the one has more
-- rows
pub before-more : (p : ℕ) (keep other : List Bool) → length keep ≡ length other → AgreeBelow p keep other → p ≤ length other → IsBare p (length other) other → ComesBefore keep other → size other < size keep
before-more p keep other e a w bare b =
    let l = before-place keep other b in
    let f = before-from p keep other a b in
    let k = kept-some p b.place (length other) keep other a f (omega (arith, l, e)) b.keeps in
    let n = kept-none p (length other) other w bare in
    let s = kept-size keep in
    let t = kept-size other in
    let m = ap (λ k. kept_below k keep) e in
    omega (arith, k, n, s, t, m)

few : (i : ℕ) (ys : List Bool) → kept_below i ys ≤ i
few zero ys = omega arith
few (suc i) ys = elim (bool-cases (slice_index_or ys i false)) [
  | inl y ↦ (let o = kept-on i ys y in let f = few i ys in omega (arith, o, f))
  | inr y ↦ (let o = kept-off i ys y in let f = few i ys in omega (arith, o, f))
]

-- a choice keeps at most all rows
pub size-most : (xs : List Bool) → size xs ≤ length xs
size-most xs = let s = kept-size xs in let f = few (length xs) xs in omega (arith, s, f)

-- a choice with as many rows as there are places keeps each
all-kept : (n : ℕ) (xs : List Bool) → kept_below n xs ≡ n → (v : ℕ) → v < n → slice_index_or xs v false ≡ true
all-kept n xs e v h = elim (bool-cases (slice_index_or xs v false)) [
  | inl y ↦ y
  | inr y ↦ absurd (let o = kept-off v xs y in let f = few v xs in let g = rest (suc v) n xs (omega arith) in omega (arith, o, f, g, e, h))
] where
  rest : (p q : ℕ) (ys : List Bool) → p ≤ q → kept_below q ys + p ≤ kept_below p ys + q
  rest p zero ys h = let z : p ≡ 0 = omega (arith, h) in let P : ℕ → Type 0 = λ k. kept_below 0 ys + k ≤ kept_below k ys + 0 in subst P (sym z) (omega arith)
  rest p (suc q) ys h = elim (bool-cases (nat_lt q p)) [
    | inl y ↦ (let c : q < p = search rules in let z : p ≡ suc q = omega (arith, h, c) in let P : ℕ → Type 0 = λ k. kept_below (suc q) ys + k ≤ kept_below k ys + suc q in subst P (sym z) (omega arith))
    | inr y ↦ (let c : p ≤ q = search rules in let r = rest p q ys c in elim (bool-cases (slice_index_or ys q false)) [
      | inl z ↦ (let o = kept-on q ys z in omega (arith, o, r))
      | inr z ↦ (let o = kept-off q ys z in omega (arith, o, r))
    ])
  ]

-- so no other comes before it
pub before-all : (keep other : List Bool) → size other ≡ length other → length keep ≡ length other → ComesBefore keep other → ⊥
before-all keep other s e b =
    let l = before-place keep other b in
    clash (all-kept (length other) other (kept-size other ∙ s) b.place (omega (arith, l, e))) b.leaves

-- a choice that comes before one that keeps an earlier row comes before the one of the later row
-- too
pub before-later : (p q : ℕ) (keep mid other : List Bool) → p ≤ q → AgreeBelow p mid other → IsBare p q other → HasFirst p q mid → ComesBefore keep mid
    → (b : ComesBefore keep other) × (b.place < q)
before-later p q keep mid other h a bare f b =
    let from = f.from in
    let before = f.before in
    let same : (x : ℕ) → x ≤ b.place → x ≤ f.place → AgreeBelow x keep other = λ x l r v g. b.same v (omega (arith, l, g)) ∙ below v (omega (arith, r, g)) in
    elim (bool-cases (nat_lt f.place b.place)) [
      | inl y ↦ (let g : f.place < b.place = search rules in
          (record { place = f.place; same = same f.place (omega (arith, g)) (omega arith); keeps = b.same f.place g ∙ f.kept; leaves = bare f.place from before }, before))
      | inr y ↦ (let g : b.place ≤ f.place = search rules in
          (record { place = b.place; same = same b.place (omega arith) g; keeps = b.keeps; leaves = leaves g }, omega (arith, g, before)))
    ]
  where
    below : (v : ℕ) → v < f.place → slice_index_or mid v false ≡ slice_index_or other v false
    below v l = elim (bool-cases (nat_lt v p)) [
      | inl y ↦ a v (search rules)
      | inr y ↦ (let g : p ≤ v = search rules in let z = f.before in
          f.bare v g l ∙ sym (bare v g (omega (arith, l, z))))
    ]

    leaves : b.place ≤ f.place → slice_index_or other b.place false ≡ false
    leaves l = elim (bool-cases (nat_lt b.place p)) [
      | inl y ↦ sym (a b.place (search rules)) ∙ b.leaves
      | inr y ↦ (let g : p ≤ b.place = search rules in let z = f.before in bare b.place g (omega (arith, l, z)))
    ]

-- a place more in front changes nothing
later : (b : Bool) (s t : List Bool) → ComesBefore s t → ComesBefore (b ∷ s) (b ∷ t)
later b s t c = record { place = suc c.place; same = agree c.place c.same; keeps = c.keeps; leaves = c.leaves } where
  agree : (p : ℕ) → AgreeBelow p s t → AgreeBelow (suc p) (b ∷ s) (b ∷ t)
  agree p a zero l = refl
  agree p a (suc v) l = a v (omega (arith, l))

under : (b : Bool) (s t : List Bool) → (s ≡ t) ⊎ (ComesBefore s t ⊎ ComesBefore t s) → (b ∷ s ≡ b ∷ t) ⊎ (ComesBefore (b ∷ s) (b ∷ t) ⊎ ComesBefore (b ∷ t) (b ∷ s))
under b s t (inl e) = inl (ap (λ (xs : List Bool). b ∷ xs) e)
under b s t (inr (inl c)) = inr (inl (later b s t c))
under b s t (inr (inr c)) = inr (inr (later b t s c))

-- of two different choices of the same places one comes before the other
pub either-before : (s t : List Bool) → length s ≡ length t → (s ≡ t) ⊎ (ComesBefore s t ⊎ ComesBefore t s)
either-before [] [] h = inl refl
either-before [] (x ∷ t) h = absurd (omega (arith, h))
either-before (x ∷ s) [] h = absurd (omega (arith, h))
either-before (true ∷ s) (false ∷ t) h = inr (inl (record { place = 0; same = λ v l. absurd (omega (arith, l)); keeps = refl; leaves = refl }))
either-before (false ∷ s) (true ∷ t) h = inr (inr (record { place = 0; same = λ v l. absurd (omega (arith, l)); keeps = refl; leaves = refl }))
either-before (true ∷ s) (true ∷ t) h = under true s t (either-before s t (omega (arith, h)))
either-before (false ∷ s) (false ∷ t) h = under false s t (either-before s t (omega (arith, h)))
