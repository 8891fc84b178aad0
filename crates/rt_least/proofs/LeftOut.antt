-- The clauses that leave rows out.
use Rattle.std.proofs.Common.{◌≡◌, ℕ, zero, suc, ◌+◌, ◌<◌, ◌≤◌, Bool, true, false, ◌||◌, inl, inr, List, [], ◌∷◌, ◌++◌, append_assoc, take, length, refl, sym, ap, subst, ◌∙◌, arith}
use Rattle.std.proofs.lemmas.List.{take_more}
use Rattle.rt_clause.specs.Literal.{Literal, negated}
use Rattle.rt_clause.specs.Lists.{has, IsMet, IsBelow, AreBelow}
use Rattle.rt_clause.proofs.Literals.{has-cases}
use Rattle.rt_clause.proofs.EachLine.{EachLine, each-none, each-cons, each-head, each-tail}
use Rattle.rt_clause.proofs.GateLaws.{IsTrueAt}
use Rattle.rt_formula.specs.Shared.{bool_at}
use Rattle.std.specs.Bool.{beq}
use Rattle.rt_least.specs.Sought.{left_out, not_kept}
use Rattle.rt_least.proofs.Taking.{take-length}

only-below : (place next : ℕ) → place < next → IsBelow next (not_kept place ∷ [])
only-below place next h l g = elim (has-cases (not_kept place) l [] g) [
  | inl e ↦ (let P : ℕ → Type 0 = λ v. v < next in subst P (ap (λ (k : Literal). k.var) (sym e)) h)
  | inr c ↦ absurd (cc)
]

pub left_out-below : (place : ℕ) (cone : List Bool) (next : ℕ) → place + length cone ≤ next → AreBelow next (left_out place cone)
left_out-below place [] next h = each-none (IsBelow next)
left_out-below place (true ∷ cone) next h = left_out-below (place + 1) cone next (omega (arith, h))
left_out-below place (false ∷ cone) next h =
    each-cons (IsBelow next) (not_kept place ∷ []) (left_out (place + 1) cone) (only-below place next (omega (arith, h))) (left_out-below (place + 1) cone next (omega (arith, h)))

-- they are true where no such row is kept
pub left_out-true : (place : ℕ) (cone bools : List Bool) → ((v : ℕ) → v < length cone → bool_at cone v ≡ false → bool_at bools (place + v) ≡ false) → EachLine (IsTrueAt bools) (left_out place cone)
left_out-true place [] bools h = each-none (IsTrueAt bools)
left_out-true place (true ∷ cone) bools h = left_out-true (place + 1) cone bools (λ v l o. (let e : place + 1 + v ≡ place + suc v = omega arith in ap (bool_at bools) e ∙ h (suc v) (omega (arith, l)) o))
left_out-true place (false ∷ cone) bools h =
    let e : place + 0 ≡ place = omega arith in
    let z : bool_at bools place ≡ false = ap (bool_at bools) (sym e) ∙ h 0 (omega arith) refl in
    each-cons (IsTrueAt bools) (not_kept place ∷ []) (left_out (place + 1) cone) (here (bool_at bools place) z)
    (left_out-true (place + 1) cone bools (λ v l o. (let f : place + 1 + v ≡ place + suc v = omega arith in ap (bool_at bools) f ∙ h (suc v) (omega (arith, l)) o))) where
      here : (b : Bool) → b ≡ false → (beq b false || false) ≡ true
      here true q = absurd (cc)
      here false q = refl

-- and they say so
pub left_out-forces : (place : ℕ) (cone bools : List Bool) → EachLine (IsTrueAt bools) (left_out place cone) → (v : ℕ) → v < length cone → bool_at cone v ≡ false → bool_at bools (place + v) ≡ false
left_out-forces place [] bools m v l o = absurd (omega (arith, l))
left_out-forces place (true ∷ cone) bools m zero l o = absurd (cc)
left_out-forces place (true ∷ cone) bools m (suc v) l o = (let e : place + suc v ≡ place + 1 + v = omega arith in ap (bool_at bools) e ∙ left_out-forces (place + 1) cone bools m v (omega (arith, l)) o)
left_out-forces place (false ∷ cone) bools m zero l o =
    let e : place + 0 ≡ place = omega arith in
    ap (bool_at bools) e ∙ out (bool_at bools place) (each-head (IsTrueAt bools) (not_kept place ∷ []) (left_out (place + 1) cone) m) where
      out : (b : Bool) → (beq b false || false) ≡ true → b ≡ false
      out true q = absurd (cc)
      out false q = refl
left_out-forces place (false ∷ cone) bools m (suc v) l o =
    let e : place + suc v ≡ place + 1 + v = omega arith in
    ap (bool_at bools) e ∙ left_out-forces (place + 1) cone bools (each-tail (IsTrueAt bools) (not_kept place ∷ []) (left_out (place + 1) cone) m) v (omega (arith, l)) o

-- propagation over them gives that no such row is kept
pub left_out-met : (place : ℕ) (cone : List Bool) (set : List Literal) → ((l : Literal) → has set l ≡ true → has set (negated l) ≡ false) → EachLine (IsMet set) (left_out place cone)
    → (v : ℕ) → v < length cone → bool_at cone v ≡ false → has set (not_kept (place + v)) ≡ true
left_out-met place [] set once m v l o = absurd (omega (arith, l))
left_out-met place (true ∷ cone) set once m zero l o = absurd (cc)
left_out-met place (true ∷ cone) set once m (suc v) l o = (let e : place + 1 + v ≡ place + suc v = omega arith in ap (λ n. has set (not_kept n)) (sym e) ∙ left_out-met (place + 1) cone set once m v (omega (arith, l)) o)
left_out-met place (false ∷ cone) set once m zero l o =
    let e : place + 0 ≡ place = omega arith in
    ap (λ n. has set (not_kept n)) e ∙ unit (not_kept place) (each-head (IsMet set) (not_kept place ∷ []) (left_out (place + 1) cone) m) where
      unit : (k : Literal) → IsMet set (k ∷ []) → has set k ≡ true
      unit k (inl x) = elim (has-cases k x.0 [] x.1) [ inl q ↦ ap (has set) (sym q) ∙ x.2 | inr c ↦ absurd (cc) ]
      unit k (inr x) = elim (has-cases k x.0 [] x.2) [
        | inl p ↦ elim (has-cases k x.1 [] x.3) [ inl q ↦ absurd (x.4 (p ∙ sym q)) | inr c ↦ absurd (cc) ]
        | inr c ↦ absurd (cc)
      ]
left_out-met place (false ∷ cone) set once m (suc v) l o =
    let e : place + 1 + v ≡ place + suc v = omega arith in
    ap (λ n. has set (not_kept n)) (sym e) ∙ left_out-met (place + 1) cone set once (each-tail (IsMet set) (not_kept place ∷ []) (left_out (place + 1) cone) m) v (omega (arith, l)) o

left_out-append : (place : ℕ) (xs : List Bool) (b : Bool) → left_out place (xs ++ b ∷ []) ≡ left_out place xs ++ left_out (place + length xs) (b ∷ [])
left_out-append place [] b = ap (λ n. left_out n (b ∷ [])) (let e : place ≡ place + 0 = omega arith in e)
left_out-append place (true ∷ xs) b = left_out-append (place + 1) xs b ∙ ap (λ n. left_out (place + 1) xs ++ left_out n (b ∷ [])) (let e : place + 1 + length xs ≡ place + length (true ∷ xs) = omega arith in e)
left_out-append place (false ∷ xs) b = ap (λ ls. (not_kept place ∷ []) ∷ ls) (left_out-append (place + 1) xs b ∙ ap (λ n. left_out (place + 1) xs ++ left_out n (b ∷ [])) (let e : place + 1 + length xs ≡ place + length (false ∷ xs) = omega arith in e))

-- one more row
pub left_out-more : (cone : List Bool) (i : ℕ) → i < length cone → left_out 0 (take (i + 1) cone) ≡ left_out 0 (take i cone) ++ left_out i (bool_at cone i ∷ [])
left_out-more cone i h =
    ap (left_out 0) (take_more cone i false h) ∙ left_out-append 0 (take i cone) (bool_at cone i)
    ∙ ap (λ n. left_out 0 (take i cone) ++ left_out n (bool_at cone i ∷ [])) (let l = take-length i cone (let z : i ≤ length cone = omega (arith, h) in z) in let e : 0 + length (take i cone) ≡ i = omega (arith, l) in e)

pub lines-more : (old now new : List (List Literal)) (cone : List Bool) (i : ℕ) (b : Bool) → i < length cone → b ≡ bool_at cone i → now ≡ old ++ left_out 0 (take i cone) → new ≡ now ++ left_out i (b ∷ []) → new ≡ old ++ left_out 0 (take (i + 1) cone)
lines-more old now new cone i b h e p q =
    q ∙ ap (λ ls. ls ++ left_out i (b ∷ [])) p ∙ append_assoc old (left_out 0 (take i cone)) (left_out i (b ∷ []))
    ∙ ap (λ ls. old ++ ls) (ap (λ x. left_out 0 (take i cone) ++ left_out i (x ∷ [])) e ∙ sym (left_out-more cone i h))
