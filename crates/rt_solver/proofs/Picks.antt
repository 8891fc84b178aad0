-- Which variables may be decided next.
use Rattle.std.proofs.Common.{◌≡◌, ◌≢◌, ℕ, zero, suc, ◌+◌, ◌-◌, ◌<◌, ◌≤◌, Bool, true, false, nat_eq, nat_lt, List, [], ◌∷◌, ◌++◌, length, length-append, refl, ap, subst, ◌∙◌, inl, inr, Option, Some, None, arith, rules, get_or-set_other, get_or-set_same, slice_set}
use Rattle.std.specs.Prelude.{IsSome, replicate}
use Rattle.std.proofs.lemmas.List.{length-replicate, get_or-replicate}
use Rattle.rt_clause.proofs.Bools.{bool-cases}
use Rattle.rt_store.specs.declared.trail.Step.{Step}
use Rattle.rt_store.specs.Trail.{value_in}
use Rattle.rt_solver.specs.Search.{HasValues}
use Rattle.rt_solver.specs.Picking.{Picking, holds, held_count, HasOpen, HasOpenBut, IsOffered}
use Rattle.rt_store.proofs.Number.{none-apart}

other-var : (v w : ℕ) → nat_eq v w ≡ false → w ≢ v
other-var v w n e = let k : nat_eq v w ≡ true = search rules in cc

-- a value stays as steps come
pub value-newer : (s : Step) (t : List Step) (v : ℕ) → IsSome (value_in t v) → IsSome (value_in (s ∷ t) v)
value-newer s t v h = elim (bool-cases (nat_eq s.lit.var v)) [ inl y ↦ rw y refl | inr n ↦ rw n h ]

-- one that a heap holds is counted
pub held-less : (held : List Bool) (v : ℕ) → holds held v ≡ true → held_count (slice_set held v false) + 1 ≡ held_count held
held-less [] v h = absurd (cc)
held-less (b ∷ held) zero h = rw h (omega arith)
held-less (b ∷ held) (suc v) h = let r = held-less held v h in elim (bool-cases b) [ inl y ↦ rw y (omega (arith, r)) | inr n ↦ rw n r ]

-- one without a value, or whose value is passed, is taken out of the heap
pub open-less : (bound : ℕ) (held : List Bool) (steps : List Step) (v : ℕ) → HasOpen bound held steps → HasOpenBut bound (slice_set held v false) steps v
open-less bound held steps v h w n b o = get_or-set_other held v w false false n ∙ h w b o

pub open-kept : (bound : ℕ) (held : List Bool) (steps : List Step) (v : ℕ) → HasOpenBut bound held steps v → (v < bound → value_in steps v ≡ None → ⊥) → HasOpen bound held steps
open-kept bound held steps v h n w b o = elim (bool-cases (nat_eq v w)) [
  | inl y ↦ absurd (let q : v ≡ w = search rules in n (let x = b in omega (arith, x, q)) (ap (value_in steps) q ∙ o))
  | inr z ↦ h w (other-var v w z) b o
]

valued : (o : Option Bool) → (o ≡ None → ⊥) → IsSome o
valued None n = absurd (n refl)
valued (Some b) n = refl

-- where the heap is empty all below the bound have values
pub open-none : (bound : ℕ) (held : List Bool) (steps : List Step) → HasOpen bound held steps → held ≡ replicate (length held) false → HasValues bound steps
open-none bound held steps h e v b = valued (value_in steps v) (λ o. empty held v e (h v b o)) where
  empty : (xs : List Bool) (i : ℕ) → xs ≡ replicate (length xs) false → holds xs i ≡ true → ⊥
  empty xs i q k = elim (bool-cases (nat_lt i (length xs))) [
    | inl y ↦ (let l : i < length xs = search rules in let z : holds xs i ≡ false = ap (λ ys. holds ys i) q ∙ get_or-replicate (length xs) i false false l in cc)
    | inr n ↦ (let l : length xs ≤ i = search rules in let z = beyond xs i l in cc)
  ] where
    beyond : (ys : List Bool) (j : ℕ) → length ys ≤ j → holds ys j ≡ false
    beyond [] j l = refl
    beyond (y ∷ ys) zero l = absurd (omega arith)
    beyond (y ∷ ys) (suc j) l = beyond ys j (omega arith)

-- more steps
pub offered-more : (picking : Picking) (above steps : List Step) → IsOffered picking steps → IsOffered picking (above ++ steps)
offered-more picking [] steps h = h
offered-more picking (s ∷ above) steps h =
    let r = offered-more picking above steps h in
    record {
      heaped = λ w l o. r.heaped w l (none-apart s (above ++ steps) w o).1;
      passed = λ w l m. value-newer s (above ++ steps) w (r.passed w l m);
    }

-- one more is put into a heap
pub fill-step : (held new : List Bool) (v : ℕ) → new ≡ slice_set held v true → v < length held → ((w : ℕ) → w < v → holds held w ≡ true) → (w : ℕ) → w < v + 1 → holds new w ≡ true
fill-step held new v e b h w l = ap (λ hs. holds hs w) e ∙ elim (bool-cases (nat_eq v w)) [
  | inl y ↦ (let q : v ≡ w = search rules in let P : ℕ → Type 0 = λ k. holds (slice_set held v true) k ≡ true in subst P q (get_or-set_same held v true false b))
  | inr n ↦ (let d = other-var v w n in get_or-set_other held v w true false d ∙ h w (omega (arith, l, d)))
]

-- a heap that has grown
pub grown : (old new : List Bool) (vars : ℕ) → new ≡ old ++ replicate (vars - length old) false → vars ≤ length new
grown old new vars e =
    let a = ap length e in
    let b = length-append old (replicate (vars - length old) false) in
    let d = length-replicate (vars - length old) false in
    omega (arith, a, b, d)
