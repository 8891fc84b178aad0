-- The literals of a clause by their places, and a copy in which some are exchanged.
use Rattle.std.proofs.Common.{◌≡◌, ◌≢◌, ℕ, zero, suc, ◌-◌, ◌<◌, ◌≤◌, true, List, [], ◌∷◌, length, get_or, swap, refl, sym, ap, ◌∙◌, inl, inr, Some, arith}
use Rattle.std.proofs.lemmas.List.{get_or_default}
use Rattle.std.proofs.lemmas.List.Edits.{length-swap, swapped_from_swap}
use Rattle.std.proofs.lemmas.List.Sorted.{list_any-IsPermutation, IsPermutation-swap}
use Rattle.rt_clause.specs.Literal.{Literal, lit_eq}
use Rattle.rt_clause.specs.Lists.{has}
use Rattle.rt_clause.proofs.Literals.{has-cases}
use Rattle.rt_store.specs.Same.{IsSame, IsSpread, AreFirst, HasOther}
use Rattle.rt_store.specs.Watching.{literal_in}

-- the place of a literal of a clause
pub place-of : (c : List Literal) (k : Literal) → has c k ≡ true → (j : ℕ) × (j < length c) × (k ≡ get_or c j k)
place-of [] k h = absurd (cc)
place-of (x ∷ c) k h = elim (has-cases x k c h) [
  | inl e ↦ (0, omega arith, e)
  | inr r ↦ (let p = place-of c k r in (suc p.0, (let b = p.1 in omega (arith, b)), p.2))
]

pub read-same : (c : List Literal) (j : ℕ) (k l : Literal) → j < length c → k ≡ get_or c j k → l ≡ get_or c j l → k ≡ l
read-same c j k l b e f = e ∙ get_or_default c j k l b ∙ sym f

pub literal-at : (c : List Literal) (p : ℕ) (l : Literal) → p < 2 → 2 ≤ length c → l ≡ get_or c p l → literal_in c p ≡ Some l
literal-at [] p l b n e = absurd (omega arith)
literal-at (a ∷ []) p l b n e = absurd (omega arith)
literal-at (a ∷ d ∷ c) zero l b n e = ap Some (sym e)
literal-at (a ∷ d ∷ c) (suc zero) l b n e = ap Some (sym e)
literal-at (a ∷ d ∷ c) (suc (suc p)) l b n e = absurd (omega arith)

pub literal-long : (c : List Literal) (p : ℕ) (l : Literal) → literal_in c p ≡ Some l → 2 ≤ length c
literal-long [] p l e = absurd (cc)
literal-long (a ∷ []) p l e = absurd (cc)
literal-long (a ∷ d ∷ c) p l e = omega arith

pub literal-read : (c : List Literal) (p : ℕ) (l : Literal) → p < 2 → literal_in c p ≡ Some l → l ≡ get_or c p l
literal-read [] p l b e = absurd (cc)
literal-read (a ∷ []) p l b e = absurd (cc)
literal-read (a ∷ d ∷ c) zero l b e = (let q : a ≡ l = cc in sym q)
literal-read (a ∷ d ∷ c) (suc zero) l b e = (let q : d ≡ l = cc in sym q)
literal-read (a ∷ d ∷ c) (suc (suc p)) l b e = absurd (omega arith)

pub spread-from : (c : List Literal) (p : ℕ) (k l : Literal) → p < 2 → literal_in c p ≡ Some k → literal_in c (1 - p) ≡ Some l → k ≢ l → IsSpread c
spread-from [] p k l b e f n = tt
spread-from (a ∷ []) p k l b e f n = tt
spread-from (a ∷ d ∷ c) zero k l b e f n = λ q. (let x : a ≡ k = cc in let y : d ≡ l = cc in n (sym x ∙ q ∙ y))
spread-from (a ∷ d ∷ c) (suc zero) k l b e f n = λ q. (let x : d ≡ k = cc in let y : a ≡ l = cc in n (sym x ∙ sym q ∙ y))
spread-from (a ∷ d ∷ c) (suc (suc p)) k l b e f n = absurd (omega arith)

pub swap-same : (c new : List Literal) (i j : ℕ) → i < length c → j < length c → new ≡ swap c i j → IsSame c new
swap-same c new i j a b e =
    let q = λ (l : Literal). list_any-IsPermutation (lit_eq l) c new (IsPermutation-swap c new i j a b e) in
    record { to = λ l h. sym (q l) ∙ h; from = λ l h. q l ∙ h }

pub other-within : (c : List Literal) (j : ℕ) → HasOther c j → (1 < length c) × (j < length c)
other-within [] j h = absurd h
other-within (a ∷ c) zero h = absurd (h.1 refl)
other-within (a ∷ c) (suc j) h = (let b = h.0 in omega (arith, b), h.0)

pub other-some : (c new : List Literal) (j : ℕ) → HasOther c j → new ≡ swap c 1 j → IsSame c new × IsSpread new
other-some [] new j h s = absurd h
other-some (a ∷ c) new j h s =
    let w = other-within (a ∷ c) j h in
    let n : length new ≡ length (a ∷ c) = ap length s ∙ length-swap (a ∷ c) 1 j in
    let x = swapped_from_swap (a ∷ c) new 1 j a w.0 w.1 s in
    let l = get_or (a ∷ c) j a in
    let z : j ≢ 0 = (λ e. h.1 (ap (λ i. get_or (a ∷ c) i a) e)) in
    let one = w.0 in
    let first : literal_in new 0 ≡ Some a = literal-at new 0 a (omega arith) (omega (arith, n, one)) (sym (x.2 0 (λ e. omega (arith, e)) (λ e. z (sym e)))) in
    let second : literal_in new 1 ≡ Some l = literal-at new 1 l (omega arith) (omega (arith, n, one)) (sym x.0 ∙ get_or_default new 1 a l (omega (arith, n, one))) in
    (swap-same (a ∷ c) new 1 j w.0 w.1 s, spread-from new 1 l a (omega arith) second first h.1)

pub others-first : (c : List Literal) (first : Literal) (n : ℕ) → first ≡ get_or c 0 first → ((k : ℕ) (x : Literal) → 1 ≤ k → k < n → x ≡ get_or c k x → x ≡ first) → length c ≤ n → AreFirst c
others-first [] first n e h b = tt
others-first (a ∷ c) first n e h b = λ k g. let p = place-of c k g in
    h (suc p.0) k (omega arith) (let d = p.1 in omega (arith, d, b)) p.2 ∙ e
