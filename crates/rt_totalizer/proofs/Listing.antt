-- The clauses of one output, for one number of rows on the left after the other.
use Rattle.std.proofs.Common.{◌≡◌, ℕ, zero, suc, ◌+◌, ◌-◌, ◌<◌, ◌≤◌, nat_le, nat_lt, Bool, true, false, cond, ◌&&◌, ◌⊎◌, inl, inr, List, [], ◌∷◌, ◌++◌, length, append_assoc, append-nil, refl, sym, ap, subst, ◌∙◌, arith, rules}
use Rattle.rt_clause.specs.Literal.{Literal}
use Rattle.rt_clause.specs.Lists.{line_at}
use Rattle.rt_clause.proofs.Bools.{bool-cases}
use Rattle.rt_clause.proofs.EachLine.{EachLine, each-none, each-cons, each-append}
use Rattle.rt_totalizer.specs.Clauses.{up_there, down_there}
use Rattle.rt_totalizer.specs.Merging.{up, down, HasLine, IsMerging}
use Rattle.rt_totalizer.proofs.Rows.{le-true, le-false}

-- those for fewer than i rows on the left
abbrev pub listed : Literal → List Literal → List Literal → ℕ → ℕ → ℕ → Literal → ℕ → List (List Literal)
listed never left right most_left most_right k out zero = []
listed never left right most_left most_right k out (suc i) =
    listed never left right most_left most_right k out i ++ up_there never left right most_left most_right out i (k - i) ++ down_there never left right most_left most_right out i (k - i - 1)

front-at : (xs ys : List (List Literal)) (c : List Literal) (i : ℕ) → i < length xs → line_at xs i ≡ c → HasLine (xs ++ ys) c
front-at [] ys c i b e = absurd (omega arith)
front-at (x ∷ xs) ys c zero b e = (0, omega arith, e)
front-at (x ∷ xs) ys c (suc i) b e = let p = front-at xs ys c i (omega arith) e in (suc p.0, (let q = p.1 in omega (arith, q)), p.2)

has-front : (xs ys : List (List Literal)) (c : List Literal) → HasLine xs c → HasLine (xs ++ ys) c
has-front xs ys c h = front-at xs ys c h.0 h.1 h.2

has-back : (xs ys : List (List Literal)) (c : List Literal) → HasLine ys c → HasLine (xs ++ ys) c
has-back [] ys c h = h
has-back (x ∷ xs) ys c h = let p = has-back xs ys c h in (suc p.0, (let q = p.1 in omega (arith, q)), p.2)

-- a clause that is there under two bounds
there-has : (a b c d : ℕ) (clause : List Literal) → a ≤ b → c ≤ d → HasLine (cond (nat_le a b && nat_le c d) (clause ∷ []) []) clause
there-has a b c d clause h g = by (nat_le a b) (nat_le c d) (le-true a b h) (le-true c d g) where
  by : (x y : Bool) → x ≡ true → y ≡ true → HasLine (cond (x && y) (clause ∷ []) []) clause
  by true true e f = (0, omega arith, refl)
  by true false e f = absurd (cc)
  by false y e f = absurd (cc)

there-each : (P : List Literal → Type 0) (a b c d : ℕ) (clause : List Literal) → (a ≤ b → c ≤ d → P clause) → EachLine P (cond (nat_le a b && nat_le c d) (clause ∷ []) [])
there-each P a b c d clause p = by (nat_le a b) (nat_le c d) (λ e. search rules) (λ e. search rules) where
  by : (x y : Bool) → (x ≡ true → a ≤ b) → (y ≡ true → c ≤ d) → EachLine P (cond (x && y) (clause ∷ []) [])
  by true true f g = each-cons P clause [] (p (f refl) (g refl)) (each-none P)
  by true false f g = each-none P
  by false y f g = each-none P

abbrev IsOne : Literal → List Literal → List Literal → ℕ → ℕ → ℕ → Literal → List Literal → Type 0
IsOne never left right most_left most_right k out clause = ((i j : ℕ) × (i + j ≡ k) × (i ≤ most_left) × (j ≤ most_right) × (clause ≡ up never left right out i j))
    ⊎ ((i j : ℕ) × (suc (i + j) ≡ k) × (i ≤ most_left) × (j ≤ most_right) × (clause ≡ down never left right out i j))

record AreListed (never : Literal) (left right : List Literal) (most_left most_right k : ℕ) (out : Literal) (i : ℕ) (clauses : List (List Literal)) : Type 0 where
  only : EachLine (IsOne never left right most_left most_right k out) clauses
  ups : (h j : ℕ) → h < i → h + j ≡ k → h ≤ most_left → j ≤ most_right → HasLine clauses (up never left right out h j)
  downs : (h j : ℕ) → h < i → suc (h + j) ≡ k → h ≤ most_left → j ≤ most_right → HasLine clauses (down never left right out h j)

module _ (never : Literal) (left right : List Literal) (most_left most_right k : ℕ) (out : Literal) where
  ups-more : (i : ℕ) (clauses more : List (List Literal)) → ((h j : ℕ) → h < i → h + j ≡ k → h ≤ most_left → j ≤ most_right → HasLine clauses (up never left right out h j))
      → (h j : ℕ) → h < suc i → h + j ≡ k → h ≤ most_left → j ≤ most_right → HasLine (clauses ++ up_there never left right most_left most_right out i (k - i) ++ more) (up never left right out h j)
  ups-more i clauses more old h j b e l m =
      let U = up_there never left right most_left most_right out i (k - i) in
      let W = clauses ++ U ++ more in
      elim (bool-cases (nat_lt h i)) [
        | inl y ↦ (let s : h < i = search rules in has-front (clauses ++ U) more _ (has-front clauses U _ (old h j s e l m)))
        | inr y ↦ (let s : i ≤ h = search rules in
            let p : i ≡ h = omega (arith, s, b) in
            let q : k - i ≡ j = omega (arith, p, e) in
            let R : ℕ → Type 0 = λ x. HasLine W (up never left right out x j) in
            let S : ℕ → Type 0 = λ x. HasLine W (up never left right out i x) in
            subst R p (subst S q (has-front (clauses ++ U) more _ (has-back clauses U _ (there-has i most_left (k - i) most_right _ (omega (arith, p, l)) (omega (arith, q, m)))))))
      ]

  downs-more : (i : ℕ) (clauses : List (List Literal)) → ((h j : ℕ) → h < i → suc (h + j) ≡ k → h ≤ most_left → j ≤ most_right → HasLine clauses (down never left right out h j))
      → (h j : ℕ) → h < suc i → suc (h + j) ≡ k → h ≤ most_left → j ≤ most_right → HasLine (clauses ++ down_there never left right most_left most_right out i (k - i - 1)) (down never left right out h j)
  downs-more i clauses old h j b e l m =
      let D = down_there never left right most_left most_right out i (k - i - 1) in
      let W = clauses ++ D in
      elim (bool-cases (nat_lt h i)) [
        | inl y ↦ (let s : h < i = search rules in has-front clauses D _ (old h j s e l m))
        | inr y ↦ (let s : i ≤ h = search rules in
            let p : i ≡ h = omega (arith, s, b) in
            let q : k - i - 1 ≡ j = omega (arith, p, e) in
            let R : ℕ → Type 0 = λ x. HasLine W (down never left right out x j) in
            let S : ℕ → Type 0 = λ x. HasLine W (down never left right out i x) in
            subst R p (subst S q (has-back clauses D _ (there-has i most_left (k - i - 1) most_right _ (omega (arith, p, l)) (omega (arith, q, m))))))
      ]

  are-listed : (i : ℕ) → i ≤ k → AreListed never left right most_left most_right k out i (listed never left right most_left most_right k out i)
  are-listed zero b = record {
    only = each-none (IsOne never left right most_left most_right k out);
    ups = λ h j s e l m. absurd (omega arith);
    downs = λ h j s e l m. absurd (omega arith);
  }
  are-listed (suc i) b =
      let P = IsOne never left right most_left most_right k out in
      let old = listed never left right most_left most_right k out i in
      let U = up_there never left right most_left most_right out i (k - i) in
      let D = down_there never left right most_left most_right out i (k - i - 1) in
      let r = are-listed i (omega (arith, b)) in
      record {
        only = each-append P (old ++ U) D
            (each-append P old U r.only (there-each P i most_left (k - i) most_right _ (λ l m. inl (i, k - i, omega (arith, b), l, m, refl))))
            (there-each P i most_left (k - i - 1) most_right _ (λ l m. inr (i, k - i - 1, omega (arith, b), l, m, refl)));
        ups = ups-more i old D r.ups;
        downs = downs-more i (old ++ U) (λ h j s e l m. has-front old U _ (r.downs h j s e l m));
      }

  -- with the last one they are all
  pub is-merging : 0 < k → IsMerging never left right most_left most_right k out (listed never left right most_left most_right k out k ++ up_there never left right most_left most_right out k (k - k))
  is-merging some =
      let P = IsOne never left right most_left most_right k out in
      let old = listed never left right most_left most_right k out k in
      let U = up_there never left right most_left most_right out k (k - k) in
      let r = are-listed k (omega arith) in
      record {
        only = each-append P old U r.only (there-each P k most_left (k - k) most_right _ (λ l m. inl (k, k - k, omega arith, l, m, refl)));
        ups = last-up;
        downs = λ h j e l m. has-front old U _ (r.downs h j (omega (arith, e)) e l m);
      } where
        last-up : (h j : ℕ) → h + j ≡ k → h ≤ most_left → j ≤ most_right
            → HasLine (listed never left right most_left most_right k out k ++ up_there never left right most_left most_right out k (k - k)) (up never left right out h j)
        last-up h j e l m =
            let old = listed never left right most_left most_right k out k in
            let U = up_there never left right most_left most_right out k (k - k) in
            elim (bool-cases (nat_lt h k)) [
              | inl y ↦ (let s : h < k = search rules in has-front old U _ ((are-listed k (omega arith)).ups h j s e l m))
              | inr y ↦ (let s : k ≤ h = search rules in
                  let p : k ≡ h = omega (arith, s, e) in
                  let q : k - k ≡ j = omega (arith, p, e) in
                  let R : ℕ → Type 0 = λ x. HasLine (old ++ U) (up never left right out x j) in
                  let S : ℕ → Type 0 = λ x. HasLine (old ++ U) (up never left right out k x) in
                  subst R p (subst S q (has-back old U _ (there-has k most_left (k - k) most_right _ (omega (arith, p, l)) (omega arith)))))
            ]

  pub listed-more : (i : ℕ) (old : List (List Literal)) → (old ++ listed never left right most_left most_right k out i ++ up_there never left right most_left most_right out i (k - i)) ++ down_there never left right most_left most_right out i (k - i - 1)
      ≡ old ++ listed never left right most_left most_right k out (i + 1)
  listed-more i old =
      let L = listed never left right most_left most_right k out i in
      let U = up_there never left right most_left most_right out i (k - i) in
      let D = down_there never left right most_left most_right out i (k - i - 1) in
      let e : suc i ≡ i + 1 = omega arith in
      ap (λ ls. ls ++ D) (append_assoc old L U) ∙ append_assoc old (L ++ U) D ∙ ap (λ (j : ℕ). old ++ listed never left right most_left most_right k out j) e

pub there-is : (a b c d : ℕ) (clause : List Literal) → a ≤ b → c ≤ d → clause ∷ [] ≡ cond (nat_le a b && nat_le c d) (clause ∷ []) []
there-is a b c d clause h g = let p = le-true a b h in let q = le-true c d g in λ t. cond (sym p t && sym q t) (clause ∷ []) []

there-none : (a b c d : ℕ) (clause : List Literal) → (b < a) ⊎ (d < c) → cond (nat_le a b && nat_le c d) (clause ∷ []) [] ≡ []
there-none a b c d clause h = elim h [
  | inl x ↦ ap (λ p. cond (p && nat_le c d) (clause ∷ []) []) (le-false a b x)
  | inr y ↦ ap (λ p. cond (nat_le a b && p) (clause ∷ []) []) (le-false c d y) ∙ by (nat_le a b)
] where
  by : (p : Bool) → cond (p && false) (clause ∷ []) [] ≡ []
  by true = refl
  by false = refl

module _ (never : Literal) (left right : List Literal) (most_left most_right k : ℕ) (out : Literal) where
  -- where the right cannot have the others of k, there are none yet
  pub listed-early : (i : ℕ) → i ≤ k - 1 - most_right → listed never left right most_left most_right k out i ≡ []
  listed-early zero b = refl
  listed-early (suc i) b =
      let u : up_there never left right most_left most_right out i (k - i) ≡ [] = there-none i most_left (k - i) most_right (up never left right out i (k - i)) (inr (omega (arith, b))) in
      let d : down_there never left right most_left most_right out i (k - i - 1) ≡ [] = there-none i most_left (k - i - 1) most_right (down never left right out i (k - i - 1)) (inr (omega (arith, b))) in
      let o = listed-early i (omega (arith, b)) in
      λ t. o t ++ u t ++ d t

  later : (i n : ℕ) → most_left < i → listed never left right most_left most_right k out (i + n) ≡ listed never left right most_left most_right k out i
  later i zero b = ap (λ (j : ℕ). listed never left right most_left most_right k out j) (let e : i + 0 ≡ i = omega arith in e)
  later i (suc n) b =
      let j = i + n in
      let L = listed never left right most_left most_right k out in
      let e : i + suc n ≡ suc (i + n) = omega arith in
      let u : up_there never left right most_left most_right out j (k - j) ≡ [] = there-none j most_left (k - j) most_right (up never left right out j (k - j)) (inl (omega (arith, b))) in
      let d : down_there never left right most_left most_right out j (k - j - 1) ≡ [] = there-none j most_left (k - j - 1) most_right (down never left right out j (k - j - 1)) (inl (omega (arith, b))) in
      ap L e ∙ (λ t. L j ++ u t ++ d t) ∙ append-nil (L j ++ []) ∙ append-nil (L j) ∙ later i n b

  -- and where the left cannot have so many, no more
  pub listed-late : (i : ℕ) → i ≤ k → (most_left < i) ⊎ (i ≡ k) → listed never left right most_left most_right k out i ≡ listed never left right most_left most_right k out k
  listed-late i b h = elim h [
    | inl x ↦ (let e : i + (k - i) ≡ k = omega (arith, b) in sym (later i (k - i) x) ∙ ap (λ (j : ℕ). listed never left right most_left most_right k out j) e)
    | inr y ↦ ap (λ (j : ℕ). listed never left right most_left most_right k out j) y
  ]
