-- A clause that is fresh over others contains none of them.
use Rattle.std.proofs.Common.{◌≡◌, ℕ, zero, suc, ◌<◌, ◌≤◌, nat_lt, Bool, true, false, ◌⊎◌, inl, inr, List, [], ◌∷◌, ◌++◌, append_assoc, length, length-append, None, refl, sym, ap, subst, ◌∙◌, arith, rules}
use Rattle.rt_clause.specs.Literal.{Literal, negated}
use Rattle.rt_clause.specs.Lists.{has, line_at, Fresh}
use Rattle.rt_clause.proofs.Bools.{bool-cases}
use Rattle.rt_clause.proofs.Literals.{has-cases, has-append_cases}
use Rattle.rt_least.specs.Nogoods.{Contains, AreFreshAlone}

clash : {b : Bool} → b ≡ true → b ≡ false → ⊥
clash p q = cc

fresh-contains_none : (lines : List (List Literal)) (c : List Literal) → Fresh lines None c → (i : ℕ) → i < length lines → Contains c (line_at lines i) → ⊥
fresh-contains_none lines c x i b h = elim (x.closed.met i b) [
  | inl m ↦ elim (each m.0 (h m.0 m.1)) [ inl e ↦ clash (ap (has x.set) (sym e) ∙ m.2) x.unset | inr f ↦ clash f (x.closed.consistent m.0 m.2) ]
  | inr m ↦ elim (each m.0 (h m.0 m.2)) [
    | inl e ↦ elim (each m.1 (h m.1 m.3)) [ inl g ↦ m.4 (e ∙ sym g) | inr f ↦ clash f m.6 ]
    | inr f ↦ clash f m.5
  ]
] where
  each : (l : Literal) → has c l ≡ true → (l ≡ x.last) ⊎ (has x.set (negated l) ≡ true)
  each l g =
      let P : List Literal → Type 0 = λ ls. has ls l ≡ true in
      elim (has-append_cases x.front (x.last ∷ []) l (subst P x.parts g)) [
        | inl y ↦ inr (x.denied l y)
        | inr y ↦ elim (has-cases x.last l [] y) [ inl e ↦ inl e | inr n ↦ absurd (cc) ]
      ]

line-front : (xs ys : List (List Literal)) (i : ℕ) → i < length xs → line_at (xs ++ ys) i ≡ line_at xs i
line-front [] ys i h = absurd (omega arith)
line-front (x ∷ xs) ys zero h = refl
line-front (x ∷ xs) ys (suc i) h = line-front xs ys i (omega arith)

line-next : (xs : List (List Literal)) (c : List Literal) (ys : List (List Literal)) → line_at (xs ++ c ∷ ys) (length xs) ≡ c
line-next [] c ys = refl
line-next (x ∷ xs) c ys = line-next xs c ys

-- in a list of clauses of which each is fresh over those before it, from a place on
pub fresh-apart : (before cs : List (List Literal)) → AreFreshAlone before cs → (i j : ℕ) → i < j → length before ≤ j → j < length (before ++ cs) → Contains (line_at (before ++ cs) j) (line_at (before ++ cs) i) → ⊥
fresh-apart before [] f i j b low high h = (let e = length-append before [] in omega (arith, e, low, high))
fresh-apart before (c ∷ cs) f i j b low high h = elim (bool-cases (nat_lt (length before) j)) [
  | inl y ↦ (let past : length before < j = search rules in
      let same : (before ++ c ∷ []) ++ cs ≡ before ++ c ∷ cs = append_assoc before (c ∷ []) cs in
      let N : List (List Literal) → Type 0 = λ ls. j < length ls in
      let C : List (List Literal) → Type 0 = λ ls. Contains (line_at ls j) (line_at ls i) in
      let e = length-append before (c ∷ []) in
      fresh-apart (before ++ c ∷ []) cs f.1 i j b (omega (arith, e, past)) (subst N (sym same) high) (subst C (sym same) h))
  | inr n ↦ (let most : j ≤ length before = search rules in
      let here : j ≡ length before = omega (arith, low, most) in
      let C : List Literal → Type 0 = λ d. Contains d (line_at before i) in
      let D : List Literal → Type 0 = λ d. Contains (line_at (before ++ c ∷ cs) j) d in
      fresh-contains_none before c f.0 i (omega (arith, b, here)) (subst C (ap (line_at (before ++ c ∷ cs)) here ∙ line-next before c cs) (subst D (line-front before (c ∷ cs) i (omega (arith, b, here))) h)))
]
