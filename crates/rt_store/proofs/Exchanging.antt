-- Two places exchanged, in the list of places and in its inverse.
use Rattle.std.proofs.Common.{◌≡◌, ◌≢◌, ℕ, ◌<◌, ◌+◌, List, [], ◌∷◌, ◌++◌, inl, inr, length, map, set, get_or, cond, nat_eq, sym, ap, ◌∙◌, subst, arith, length-set, get_or-set_same, get_or-set_other}
use Rattle.std.proofs.lemmas.Bool.{cases_eq, cases_lt, eq-eqb, ne_eqb}
use Rattle.std.proofs.lemmas.List.{ext_get_or, length-map, get_or-map, length_push, get_or_push, get_or_append_left}
use Rattle.std.specs.List.{SwappedAt}
use Rattle.rt_store.specs.Places.{exchanged, IsInverse, IsPlaced, IsOnlyPlace}

pub at_first : (i j p : ℕ) → p ≡ i → exchanged i j p ≡ j
at_first i j p e = ap (λ b. cond b j (cond (nat_eq p j) i p)) (eq-eqb p i e)

pub at_other : (i j p : ℕ) → p ≢ i → p ≢ j → exchanged i j p ≡ p
at_other i j p h k = ap (λ b. cond b j (cond (nat_eq p j) i p)) (ne_eqb p i h) ∙ ap (λ b. cond b i p) (ne_eqb p j k)

pub at_second : (i j p : ℕ) → p ≡ j → exchanged i j p ≡ i
at_second i j p e = elim (cases_eq p i) [
  | inl f ↦ at_first i j p f ∙ sym e ∙ f
  | inr f ↦ ap (λ b. cond b j (cond (nat_eq p j) i p)) (ne_eqb p i f) ∙ ap (λ b. cond b i p) (eq-eqb p j e)
]

-- one variable alone is at a place
pub alone : (places items : List ℕ) (v : ℕ) → IsInverse places items → v < length places → IsOnlyPlace places v
alone places items v inv h k below same =
    sym (inv.there k below).1 ∙ ap (λ p. get_or items p 0) same ∙ (inv.there v h).1

-- writing the places of the two variables there is to exchange them
pub written : (places items : List ℕ) (i j first second : ℕ) → IsInverse places items → i < length places → j < length places → first ≡ get_or items i 0 → second ≡ get_or items j 0 → set (set places first j) second i ≡ map (exchanged i j) places
written places items i j first second inv low high f s =
    ext_get_or 0 _ _ (lengths ∙ sym (length-map places (exchanged i j))) (λ k h. let below = subst (λ n. k < n) lengths h in point k below ∙ sym (get_or-map (exchanged i j) places k 0 0 below)) where
      lengths : length (set (set places first j) second i) ≡ length places
      lengths = length-set (set places first j) second i ∙ length-set places first j

      at : (p v : ℕ) → p < length places → v ≡ get_or items p 0 → (v < length places) × (get_or places v 0 ≡ p)
      at p v h e = let b = inv.back p (omega (arith, h, inv.same)) in (omega (arith, b.0, e, inv.same), ap (λ w. get_or places w 0) e ∙ b.1)

      point : (k : ℕ) → k < length places → get_or (set (set places first j) second i) k 0 ≡ exchanged i j (get_or places k 0)
      point k h =
          let one = at i first low f in
          let two = at j second high s in
          elim (cases_eq k second) [
            | inl e ↦ ap (λ w. get_or (set (set places first j) second i) w 0) e
                ∙ get_or-set_same (set places first j) second i 0 (omega (arith, two.0, length-set places first j))
                ∙ sym (at_second i j (get_or places k 0) (ap (λ w. get_or places w 0) e ∙ two.1))
            | inr n ↦ get_or-set_other (set places first j) second k i 0 n ∙ elim (cases_eq k first) [
              | inl e ↦ ap (λ w. get_or (set places first j) w 0) e ∙ get_or-set_same places first j 0 one.0 ∙ sym (at_first i j (get_or places k 0) (ap (λ w. get_or places w 0) e ∙ one.1))
              | inr m ↦ get_or-set_other places first k j 0 m ∙ sym (at_other i j (get_or places k 0) (λ e. m (sym (inv.there k h).1 ∙ ap (λ p. get_or items p 0) e ∙ sym f)) (λ e. n (sym (inv.there k h).1 ∙ ap (λ p. get_or items p 0) e ∙ sym s)))
            ]
          ]

-- the exchanged lists are inverse to each other
pub inverse : (places items other : List ℕ) (i j : ℕ) → IsInverse places items → i < length places → j < length places → SwappedAt items other i j → length other ≡ length items → IsInverse (map (exchanged i j) places) other
inverse places items other i j inv low high sw len = record {
  same = len ∙ inv.same ∙ sym (length-map places (exchanged i j));
  there = there;
  back = back;
} where
  exchanged-below : (p : ℕ) → p < length places → exchanged i j p < length places
  exchanged-below p h = elim (cases_eq p i) [
    | inl e ↦ subst (λ q. q < length places) (sym (at_first i j p e)) high
    | inr n ↦ elim (cases_eq p j) [
      | inl e ↦ subst (λ q. q < length places) (sym (at_second i j p e)) low
      | inr m ↦ subst (λ q. q < length places) (sym (at_other i j p n m)) h
    ]
  ]

  read : (p : ℕ) → get_or other (exchanged i j p) 0 ≡ get_or items p 0
  read p = elim (cases_eq p i) [
    | inl e ↦ ap (λ q. get_or other q 0) (at_first i j p e) ∙ sw.1 0 ∙ ap (λ q. get_or items q 0) (sym e)
    | inr n ↦ elim (cases_eq p j) [
      | inl e ↦ ap (λ q. get_or other q 0) (at_second i j p e) ∙ sw.0 0 ∙ ap (λ q. get_or items q 0) (sym e)
      | inr m ↦ ap (λ q. get_or other q 0) (at_other i j p n m) ∙ sw.2 p 0 n m
    ]
  ]

  twice : (p : ℕ) → exchanged i j (exchanged i j p) ≡ p
  twice p = elim (cases_eq p i) [
    | inl e ↦ at_second i j (exchanged i j p) (at_first i j p e) ∙ sym e
    | inr n ↦ elim (cases_eq p j) [
      | inl e ↦ at_first i j (exchanged i j p) (at_second i j p e) ∙ sym e
      | inr m ↦ ap (exchanged i j) (at_other i j p n m) ∙ at_other i j p n m
    ]
  ]

  wide : length (map (exchanged i j) places) ≡ length places
  wide = length-map places (exchanged i j)

  there : IsPlaced (map (exchanged i j) places) other
  there k h =
      let below = subst (λ n. k < n) wide h in
      let is = get_or-map (exchanged i j) places k 0 0 below in
      let t = inv.there k below in (
        subst (λ n. get_or (map (exchanged i j) places) k 0 < n) (sym wide) (subst (λ q. q < length places) (sym is) (exchanged-below (get_or places k 0) t.0)),
        ap (λ q. get_or other q 0) is ∙ read (get_or places k 0) ∙ t.1,
      )

  -- the place q was exchanged from p
  back : IsPlaced other (map (exchanged i j) places)
  back q h =
      let p = exchanged i j q in
      let below : q < length places = omega (arith, h, len, inv.same) in
      let from = exchanged-below q below in
      let is : get_or other q 0 ≡ get_or items p 0 = sym (ap (λ r. get_or other r 0) (twice q)) ∙ read p in
      let b = inv.back p (omega (arith, from, inv.same)) in
      let bound : get_or items p 0 < length places = omega (arith, b.0, inv.same) in (
        subst (λ n. get_or other q 0 < n) (sym len) (subst (λ v. v < length items) (sym is) b.0),
        ap (λ v. get_or (map (exchanged i j) places) v 0) is ∙ get_or-map (exchanged i j) places (get_or items p 0) 0 0 bound ∙ ap (exchanged i j) b.1 ∙ twice q,
      )

pub swapped : (places items other : List ℕ) (i j first second : ℕ) → IsInverse places items → i < length places → j < length places → first ≡ get_or items i 0 → second ≡ get_or items j 0 → SwappedAt items other i j → length other ≡ length items → IsInverse (set (set places first j) second i) other
swapped places items other i j first second inv low high f s sw len =
    subst (λ ps. IsInverse ps other) (sym (written places items i j first second inv low high f s)) (inverse places items other i j inv low high sw len)

-- one more variable at its own place
pub inverse-push : (places items : List ℕ) (k : ℕ) → IsInverse places items → length places ≡ k → IsInverse (places ++ k ∷ []) (items ++ k ∷ [])
inverse-push places items k inv len = record {
  same = length_push items k ∙ ap (λ n. n + 1) inv.same ∙ sym (length_push places k);
  there = placed places items inv.there inv.same len;
  back = placed items places inv.back (sym inv.same) (inv.same ∙ len);
} where
  placed : (ps qs : List ℕ) → IsPlaced ps qs → length qs ≡ length ps → length ps ≡ k → IsPlaced (ps ++ k ∷ []) (qs ++ k ∷ [])
  placed ps qs pl same wide v h = elim (cases_lt v (length ps)) [
    | inl below ↦
        let e = get_or_append_left ps (k ∷ []) 0 v below in
        let t = pl v below in (
          omega (arith, e, t.0, length_push ps k),
          ap (λ p. get_or (qs ++ k ∷ []) p 0) e ∙ get_or_append_left qs (k ∷ []) 0 (get_or ps v 0) (omega (arith, t.0, same)) ∙ t.1,
        )
    | inr above ↦
        let last : v ≡ k = omega (arith, above, h, wide, length_push ps k) in
        let e : get_or (ps ++ k ∷ []) v 0 ≡ k = ap (λ w. get_or (ps ++ k ∷ []) w 0) last ∙ get_or_push ps k 0 k wide in (
          omega (arith, e, wide, length_push ps k),
          ap (λ p. get_or (qs ++ k ∷ []) p 0) e ∙ get_or_push qs k 0 k (same ∙ wide) ∙ sym last,
        )
  ]
