-- The least closed set that has the rows of a first one is the step whose number is the set's
-- length.
use Rattle.std.proofs.Common.{◌≡◌, ℕ, zero, suc, ◌+◌, ◌<◌, ◌≤◌, Bool, true, false, cond, List, [], ◌∷◌, length, slice_set, refl, sym, subst, ap, arith, ◌∙◌, ◌⊎◌, inl, inr}
use Rattle.std.proofs.lemmas.List.{length-set}
use Rattle.std.specs.List.{All as Each}
use Rattle.rt_value.specs.Keep.{size}
use Rattle.rt_formula.specs.Under.{is_marked, MarksStay}
use Rattle.rt_formula.proofs.MarkLemmas.{set-only, set-stays, set-there}
use Rattle.rt_rules.specs.declared.links.Link.{Link}
use Rattle.rt_rules.specs.Closing.{IsClosed}
use Rattle.rt_rules.specs.Cone.{next, step}
use Rattle.rt_rules.proofs.LinkLemmas.{AreLow, each-one}
use Rattle.rt_rules.proofs.SetLemmas.{size-grows, size-long, size-same}

-- a row that may be added
maybe-long : (b : Bool) (set : List Bool) (n : ℕ) → length (cond b (slice_set set n true) set) ≡ length set
maybe-long true set n = length-set set n true
maybe-long false set n = refl

maybe-stays : (b : Bool) (set : List Bool) (n : ℕ) → MarksStay set (cond b (slice_set set n true) set)
maybe-stays true set n k h = set-stays set n k h
maybe-stays false set n k h = h

maybe-there : (b : Bool) (set : List Bool) (n : ℕ) → n < length set → b ≡ true → is_marked (cond b (slice_set set n true) set) n ≡ true
maybe-there true set n h e = set-there set n h
maybe-there false set n h e = absurd (cc)

maybe-only : (b : Bool) (set : List Bool) (n : ℕ) (others : List Bool) → MarksStay set others → (b ≡ true → is_marked others n ≡ true) → MarksStay (cond b (slice_set set n true) set) others
maybe-only true set n others s m = set-only set n others s (m refl)
maybe-only false set n others s m = s

next-long : (links : List Link) (set : List Bool) → length (next links set) ≡ length set
next-long [] set = refl
next-long (l ∷ links) set = maybe-long (is_marked set l.from) (next links set) l.to ∙ next-long links set

next-stays : (links : List Link) (set : List Bool) → MarksStay set (next links set)
next-stays [] set k h = h
next-stays (l ∷ links) set k h = maybe-stays (is_marked set l.from) (next links set) l.to k (next-stays links set k h)

-- the rows that rows of the set refer to are in the next one
next-met : (links : List Link) (set : List Bool) → AreLow (length set) links → Each (λ l. is_marked set l.from ≡ true → is_marked (next links set) l.to ≡ true) links
next-met [] set low = λ i d b. absurd (omega (arith, b))
next-met (l ∷ links) set low =
    each-one (λ k. is_marked set k.from ≡ true → is_marked (next (l ∷ links) set) k.to ≡ true) l links
    (maybe-there (is_marked set l.from) (next links set) l.to (let n = next-long links set in let e = (low 0 l (omega arith)).1 in omega (arith, n, e)))
    (λ i d b m. maybe-stays (is_marked set l.from) (next links set) l.to _ (next-met links set (λ j e c. low (suc j) e (omega (arith, c))) i d b m))

-- no others are, so a closed set with all rows of the set has those of the next one
next-only : (links : List Link) (set others : List Bool) → MarksStay set others → IsClosed links others → MarksStay (next links set) others
next-only [] set others s c = s
next-only (l ∷ links) set others s c =
    maybe-only (is_marked set l.from) (next links set) l.to others (next-only links set others s (λ i d b. c (suc i) d (omega (arith, b)))) (λ m. c 0 l (omega arith) (s l.from m))

same-marks : (a b : List Bool) → length a ≡ length b → MarksStay a b → MarksStay b a → a ≡ b
same-marks [] [] l s t = refl
same-marks [] (y ∷ b) l s t = absurd (omega (arith, l))
same-marks (x ∷ a) [] l s t = absurd (omega (arith, l))
same-marks (true ∷ a) (true ∷ b) l s t = ap (λ xs. true ∷ xs) (same-marks a b (omega (arith, l)) (λ k. s (suc k)) (λ k. t (suc k)))
same-marks (false ∷ a) (false ∷ b) l s t = ap (λ xs. false ∷ xs) (same-marks a b (omega (arith, l)) (λ k. s (suc k)) (λ k. t (suc k)))
same-marks (true ∷ a) (false ∷ b) l s t = absurd (let e = s 0 refl in cc)
same-marks (false ∷ a) (true ∷ b) l s t = absurd (let e = t 0 refl in cc)

-- a set is closed where the next one has no more rows, and then the next one is the same
closed-by : (links : List Link) (set : List Bool) → AreLow (length set) links → size (next links set) ≡ size set → IsClosed links set
closed-by links set low e i d b m = size-same set (next links set) (next-long links set) (next-stays links set) e _ (next-met links set low i d b m)

next-closed : (links : List Link) (set : List Bool) → IsClosed links set → IsClosed links (next links set)
next-closed links set c =
    let S : List Bool → Type 0 = IsClosed links in
    subst S (sym (same-marks (next links set) set (next-long links set) (next-only links set set (λ k h. h) c) (next-stays links set))) c

more-or-same : (a b : ℕ) → a ≤ b → (a + 1 ≤ b) ⊎ (b ≡ a)
more-or-same zero zero h = inr refl
more-or-same zero (suc b) h = inl (omega arith)
more-or-same (suc a) zero h = absurd (omega (arith, h))
more-or-same (suc a) (suc b) h = elim (more-or-same a b (omega (arith, h))) [ inl l ↦ inl (omega (arith, l)) | inr e ↦ inr (ap suc e) ]

module _ (links : List Link) (first : List Bool) where
  step-long : (n : ℕ) → length (step links first n) ≡ length first
  step-long zero = refl
  step-long (suc n) = next-long links (step links first n) ∙ step-long n

  step-stays : (n : ℕ) → MarksStay first (step links first n)
  step-stays zero k h = h
  step-stays (suc n) k h = next-stays links (step links first n) k (step-stays n k h)

  step-only : (n : ℕ) (others : List Bool) → MarksStay first others → IsClosed links others → MarksStay (step links first n) others
  step-only zero others s c = s
  step-only (suc n) others s c = next-only links (step links first n) others (step-only n others s c) c

  -- each step adds a row, or the set is closed
  step-grows : AreLow (length first) links → (n : ℕ) → (n ≤ size (step links first n)) ⊎ IsClosed links (step links first n)
  step-grows low zero = inl (omega arith)
  step-grows low (suc n) =
      let set = step links first n in
      let L : ℕ → Type 0 = λ k. AreLow k links in
      elim (step-grows low n) [
        | inr c ↦ inr (next-closed links set c)
        | inl h ↦ elim (more-or-same (size set) (size (next links set)) (size-grows set (next links set) (next-long links set) (next-stays links set))) [
          | inl m ↦ inl (omega (arith, h, m))
          | inr e ↦ inr (next-closed links set (closed-by links set (subst L (sym (step-long n)) low) e))
        ]
      ]

  step-closed : AreLow (length first) links → IsClosed links (step links first (length first))
  step-closed low =
      let n = length first in
      let set = step links first n in
      let L : ℕ → Type 0 = λ k. AreLow k links in
      elim (step-grows low n) [
        | inr c ↦ c
        | inl h ↦ closed-by links set (subst L (sym (step-long n)) low)
            (let g = size-grows set (next links set) (next-long links set) (next-stays links set) in
            let t = size-long (next links set) in
            let a = next-long links set in
            let b = step-long n in
            let u = size-long set in
            omega (arith, h, g, t, a, b, u))
      ]

  pub least-is-step : (set : List Bool) → AreLow (length first) links → length set ≡ length first → MarksStay first set → IsClosed links set
      → ((others : List Bool) → MarksStay first others → IsClosed links others → MarksStay set others) → set ≡ step links first (length first)
  least-is-step set low long stay closed least =
      let n = length first in
      same-marks set (step links first n) (long ∙ sym (step-long n)) (least (step links first n) (step-stays n) (step-closed low)) (step-only n set stay closed)
