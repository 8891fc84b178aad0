-- The list of the clauses of fewer than two literals.
use Rattle.std.proofs.Common.{◌≡◌, ℕ, ◌<◌, ◌≤◌, true, nat_lt, List, [], ◌∷◌, ◌++◌, length, sym, ap, ◌∙◌, ◌⊎◌, inl, inr, arith, rules, length-append}
use Rattle.std.proofs.lemmas.List.Elements.{All-push, Contains-append_left, Contains-append_right}
use Rattle.std.specs.List.{All as Each}
use Rattle.rt_clause.specs.Literal.{Literal}
use Rattle.rt_clause.specs.Lists.{has, line_at}
use Rattle.rt_clause.proofs.Bools.{bool-cases}
use Rattle.rt_clause.proofs.Literals.{has-head, has-tail, has-cases}
use Rattle.rt_store.specs.Same.{IsSame, AreSame, IsSpread}
use Rattle.rt_solver.specs.Propagating.{AreShort}
use Rattle.rt_store.proofs.FreshLaws.{line_at-append, line_at-end}

-- a clause of the longer list is an old one or the new one
place-cases : (old : List (List Literal)) (c : List Literal) (i : ℕ) → i < length (old ++ c ∷ []) → ((i < length old) × (line_at (old ++ c ∷ []) i ≡ line_at old i)) ⊎ ((i ≡ length old) × (line_at (old ++ c ∷ []) i ≡ c))
place-cases old c i b = elim (bool-cases (nat_lt i (length old))) [
  | inl y ↦ (let g : i < length old = search rules in inl (g, line_at-append old (c ∷ []) i g))
  | inr n ↦ (let g : length old ≤ i = search rules in let l = length-append old (c ∷ []) in let e : i ≡ length old = omega (arith, g, l, b) in
      inr (e, ap (line_at (old ++ c ∷ [])) e ∙ line_at-end old c))
]

within-more : (old : List (List Literal)) (c : List Literal) (numbers : List ℕ) → Each (λ i. i < length old) numbers → Each (λ i. i < length (old ++ c ∷ [])) numbers
within-more old c numbers h k d l = let x = h k d l in let e = length-append old (c ∷ []) in omega (arith, x, e)

-- a short clause is noted
pub short-push : (old : List (List Literal)) (numbers : List ℕ) (c : List Literal) (n : ℕ) → n ≡ length old → AreShort old numbers → AreShort (old ++ c ∷ []) (numbers ++ n ∷ [])
short-push old numbers c n e h = record {
  within = All-push (λ i. i < length (old ++ c ∷ [])) numbers n (within-more old c numbers h.within) (let l = length-append old (c ∷ []) in omega (arith, l, e));
  all = λ i b s. elim (place-cases old c i b) [
    | inl p ↦ Contains-append_left numbers (n ∷ []) i (h.all i p.0 (let q = ap (λ (d : List Literal). length d) p.1 in omega (arith, q, s)))
    | inr p ↦ Contains-append_right numbers (n ∷ []) i (0, omega arith, e ∙ sym p.0)
  ];
}

-- where the first two literals differ, no clause of fewer than two has the same ones
short-of : (a b : List Literal) → IsSame a b → IsSpread a → length b < 2 → length a < 2
short-of [] b s p l = omega arith
short-of (x ∷ []) b s p l = omega arith
short-of (x ∷ y ∷ a) [] s p l = absurd (let h = s.to x (has-head x (y ∷ a)) in cc)
short-of (x ∷ y ∷ a) (z ∷ []) s p l =
    absurd (p (only z x (s.to x (has-head x (y ∷ a))) ∙ sym (only z y (s.to y (has-tail x y (y ∷ a) (has-head y a)))))) where
      only : (k j : Literal) → has (k ∷ []) j ≡ true → j ≡ k
      only k j h = elim (has-cases k j [] h) [ inl e ↦ e | inr f ↦ absurd (cc) ]
short-of (x ∷ y ∷ a) (z ∷ w ∷ b) s p l = absurd (omega (arith, l))

-- literals change places
pub short-same : (old new : List (List Literal)) (numbers : List ℕ) → AreSame old new → ((i : ℕ) → i < length old → IsSpread (line_at old i)) → AreShort old numbers → AreShort new numbers
short-same old new numbers s spread h =
    let e = s.each in
    record {
      within = λ k d l. let x = h.within k d l in omega (arith, x, e);
      all = λ i b l. let g : i < length old = omega (arith, b, e) in h.all i g (short-of (line_at old i) (line_at new i) (s.same i g) (spread i g) l);
    }
