-- The binary number of a trail, and how it grows.
use Rattle.std.proofs.Common.{◌≡◌, ℕ, zero, suc, ◌+◌, ◌-◌, ◌*◌, ◌^◌, ◌<◌, ◌≤◌, true, false, cond, nat_eq, nat_lt, eqb, List, [], ◌∷◌, ◌++◌, length, None, refl, ap, ◌∙◌, arith, rules, inl, inr}
use Rattle.std.proofs.Math.Nat.{pow-suc, mul-le-mul_right}
use Rattle.std.specs.List.{IsDistinct, AllByRecursion, list_any}
use Rattle.std.proofs.lemmas.Map.Steps.{length-le_from_distinct_below}
use Rattle.rt_clause.proofs.Bools.{bool-cases, or-cases, or-false}
use Rattle.rt_store.specs.declared.trail.Step.{Step}
use Rattle.rt_store.specs.declared.trail.Why.{Why}
use Rattle.rt_store.specs.declared.trail.Why.TheVariants.{Line, Decided, Assumed}
use Rattle.rt_store.specs.Trail.{value_in, IsApart, digit, count_below, number, distance}

pub pow-pos : (k : ℕ) → 0 < 2 ^ k
pow-pos zero = omega arith
pow-pos (suc k) = let h = pow-pos k in let e = pow-suc 2 k in omega (arith, h, e)

-- one digit fewer halves the room
halves : (n c : ℕ) → c < n → 2 ^ (n - c) ≡ 2 ^ (n - (c + 1)) + 2 ^ (n - (c + 1))
halves n c h =
    let e : n - c ≡ suc (n - (c + 1)) = omega arith in
    let p = pow-suc 2 (n - (c + 1)) in
    ap (λ k. 2 ^ k) e ∙ omega (arith, p)

digit-le : (w : Why) → digit w ≤ 1
digit-le (Line r) = omega arith
digit-le Decided = omega arith
digit-le Assumed = omega arith

abbrev pub potential : ℕ → List Step → ℕ
potential n t = number n t + 2 ^ (n - count_below n t)

times-le : (d p : ℕ) → d ≤ 1 → d * p ≤ p
times-le zero p h = omega arith
times-le (suc zero) p h = omega arith
times-le (suc (suc d)) p h = absurd (omega arith)

pub potential-step : (n : ℕ) (s : Step) (t : List Step) → count_below n (s ∷ t) ≤ n → potential n (s ∷ t) ≤ potential n t
potential-step n s t h = elim (bool-cases (nat_lt s.lit.var n)) [
  | inl b ↦ (let h' = rw b at h in
      rw b (let p = halves n (count_below n t) (omega arith) in
      let q = times-le (digit s.why) (2 ^ (n - (count_below n t + 1))) (digit-le s.why) in
      omega (arith, p, q)))
  | inr b ↦ rw b (omega arith)
]

count-step : (n : ℕ) (s : Step) (t : List Step) → count_below n t ≤ count_below n (s ∷ t)
count-step n s t = elim (bool-cases (nat_lt s.lit.var n)) [ inl b ↦ rw b (omega arith) | inr b ↦ rw b (omega arith) ]

pub potential-above : (n : ℕ) (above t : List Step) → count_below n (above ++ t) ≤ n → potential n (above ++ t) ≤ potential n t
potential-above n [] t h = omega arith
potential-above n (s ∷ above) t h =
    let c = count-step n s (above ++ t) in
    let a = potential-step n s (above ++ t) h in
    let b = potential-above n above t (omega (arith, c, h)) in omega (arith, a, b)

potential-all : (n : ℕ) (t : List Step) → count_below n t ≤ n → potential n t ≤ 2 ^ n
potential-all n [] h = let e : 2 ^ (n - 0) ≡ 2 ^ n = ap (λ k. 2 ^ k) (let z : n - 0 ≡ n = omega arith in z) in omega (arith, e)
potential-all n (s ∷ t) h =
    let c = count-step n s t in
    let a = potential-step n s t h in
    let b = potential-all n t (omega (arith, c, h)) in omega (arith, a, b)

-- the number has n digits
pub number-small : (n : ℕ) (t : List Step) → count_below n t ≤ n → number n t < 2 ^ n
number-small n t h =
    let a = potential-all n t h in
    let b = pow-pos (n - count_below n t) in omega (arith, a, b)

-- a step back to a decision, and the other value for it, make the number grow
pub number-grows : (n : ℕ) (above kept : List Step) (decision learned : Step) → decision.why ≡ Decided → digit learned.why ≡ 1
    → decision.lit.var < n → learned.lit.var < n → count_below n (above ++ decision ∷ kept) ≤ n
    → number n (above ++ decision ∷ kept) < number n (learned ∷ kept)
number-grows n above kept d l e f dn ln h =
    let td : nat_lt d.lit.var n ≡ true = search rules in
    let tl : nat_lt l.lit.var n ≡ true = search rules in
    let a = potential-above n above (d ∷ kept) h in
    let p = pow-pos (n - count_below n (above ++ d ∷ kept)) in
    let x : number n (d ∷ kept) ≡ number n kept + digit d.why * 2 ^ (n - (count_below n kept + 1)) = rw td refl in
    let y : count_below n (d ∷ kept) ≡ count_below n kept + 1 = rw td refl in
    let z : number n (l ∷ kept) ≡ number n kept + digit l.why * 2 ^ (n - (count_below n kept + 1)) = rw tl refl in
    let u : digit d.why ≡ 0 = ap digit e in
    let y' : 2 ^ (n - count_below n (d ∷ kept)) ≡ 2 ^ (n - (count_below n kept + 1)) = ap (λ k. 2 ^ (n - k)) y in
    let x' : number n (d ∷ kept) ≡ number n kept + 0 * 2 ^ (n - (count_below n kept + 1)) = x ∙ ap (λ k. number n kept + k * 2 ^ (n - (count_below n kept + 1))) u in
    let z' : number n (l ∷ kept) ≡ number n kept + 1 * 2 ^ (n - (count_below n kept + 1)) = z ∙ ap (λ k. number n kept + k * 2 ^ (n - (count_below n kept + 1))) f in
    omega (arith, a, p, x', y', z')

-- a step never makes it fall
pub number-kept : (n : ℕ) (s : Step) (t : List Step) → number n t ≤ number n (s ∷ t)
number-kept n s t = elim (bool-cases (nat_lt s.lit.var n)) [ inl b ↦ rw b (omega arith) | inr b ↦ rw b (omega arith) ]

-- distinct variables below n are at most n
vars_below : ℕ → List Step → List ℕ
vars_below n [] = []
vars_below n (s ∷ t) = cond (nat_lt s.lit.var n) (s.lit.var ∷ vars_below n t) (vars_below n t)

count-is : (n : ℕ) (t : List Step) → count_below n t ≡ length (vars_below n t)
unfolding vars_below
count-is n [] = refl
count-is n (s ∷ t) = elim (bool-cases (nat_lt s.lit.var n)) [ inl b ↦ rw b (let h = count-is n t in grind (arith, h)) | inr b ↦ rw b (count-is n t) ]

-- a variable with no value is not that of the newest step, and has none before it
pub none-apart : (s : Step) (t : List Step) (v : ℕ) → value_in (s ∷ t) v ≡ None → (nat_eq s.lit.var v ≡ false) × (value_in t v ≡ None)
none-apart s t v h = elim (bool-cases (nat_eq s.lit.var v)) [ inl b ↦ absurd (let g = rw b at h in cc) | inr b ↦ (b, rw b at h) ]

absent : (n v : ℕ) (t : List Step) → value_in t v ≡ None → list_any (eqb v) (vars_below n t) ≡ false
unfolding vars_below
absent n v [] h = refl
absent n v (s ∷ t) h =
    let p = none-apart s t v h in let r = absent n v t p.1 in
    let q : eqb v s.lit.var ≡ false = (let e = p.0 in search rules) in
    elim (bool-cases (nat_lt s.lit.var n)) [ inl b ↦ rw (b, q) r | inr b ↦ rw b r ]

each-apart : (v : ℕ) (xs : List ℕ) → list_any (eqb v) xs ≡ false → AllByRecursion (λ y. eqb v y ≡ false) xs
each-apart v [] h = tt
each-apart v (x ∷ xs) h = let p = or-false (eqb v x) (list_any (eqb v) xs) h in (p.0, each-apart v xs p.1)

distinct : (m n : ℕ) (t : List Step) → IsApart m t → IsDistinct eqb (vars_below n t)
unfolding vars_below IsDistinct
distinct m n [] h = tt
distinct m n (s ∷ t) h = let r = distinct m n t h.2 in
    elim (bool-cases (nat_lt s.lit.var n)) [ inl b ↦ rw b (each-apart s.lit.var (vars_below n t) (absent n s.lit.var t h.1), r) | inr b ↦ rw b r ]

below : (n : ℕ) (t : List Step) (q : ℕ) → list_any (eqb q) (vars_below n t) ≡ true → q < n
unfolding vars_below
below n [] q h = absurd (cc)
below n (s ∷ t) q h = elim (bool-cases (nat_lt s.lit.var n)) [
  | inl b ↦ (let g = rw b at h in elim (or-cases (eqb q s.lit.var) (list_any (eqb q) (vars_below n t)) g) [ inl e ↦ search rules | inr r ↦ below n t q r ])
  | inr b ↦ below n t q (rw b at h)
]

pub count-fits : (m n : ℕ) (t : List Step) → IsApart m t → count_below n t ≤ n
count-fits m n t h = let l = length-le_from_distinct_below (vars_below n t) n (distinct m n t h) (below n t) in let e = count-is n t in omega (arith, l, e)

pub count-whole : (m : ℕ) (t : List Step) → IsApart m t → count_below m t ≡ length t
count-whole m [] h = refl
count-whole m (s ∷ t) h = let b : nat_lt s.lit.var m ≡ true = (let g = h.0 in search rules) in rw b (let r = count-whole m t h.2 in grind (arith, r))

pub length-fits : (m : ℕ) (t : List Step) → IsApart m t → length t ≤ m
length-fits m t h = let a = count-fits m m t h in let b = count-whole m t h in omega (arith, a, b)

-- the distance falls where a step is added
pub distance-step : (m : ℕ) (s : Step) (t : List Step) → IsApart m (s ∷ t) → distance m (s ∷ t) < distance m t
distance-step m s t h =
    let a = length-fits m (s ∷ t) h in
    let b = number-kept m s t in
    let c = number-small m (s ∷ t) (count-fits m m (s ∷ t) h) in
    let e : length (s ∷ t) ≡ length t + 1 = grind arith in
    falls (2 ^ m - number m (s ∷ t)) (2 ^ m - number m t) (m + 1) (m - length (s ∷ t)) (m - length t) (omega (arith, b)) (omega (arith, a, e)) where
      falls : (x y k p q : ℕ) → x ≤ y → p < q → x * k + p < y * k + q
      falls x y k p q h l = let g = mul-le-mul_right k h in omega (arith, g, l)

-- and where the number grows
pub distance-grows : (m : ℕ) (old new : List Step) → IsApart m new → number m old < number m new → distance m new < distance m old
distance-grows m old new h l =
    let c = number-small m new (count-fits m m new h) in
    falls (2 ^ m - number m new) (2 ^ m - number m old) m (m - length new) (m - length old) (omega (arith, l, c)) (omega arith) where
      falls : (x y k p q : ℕ) → x < y → p ≤ k → x * (k + 1) + p < y * (k + 1) + q
      falls x y k p q h l = let g = mul-le-mul_right (k + 1) (let s : suc x ≤ y = omega arith in s) in omega (arith, g, l)
