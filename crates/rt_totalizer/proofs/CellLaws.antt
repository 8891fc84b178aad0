-- Clauses of two or three literals, and clauses of which all literals but one are false.
use Rattle.std.proofs.Common.{◌≡◌, ℕ, ◌+◌, ◌≤◌, nat_lt, Bool, true, false, not, ◌⊎◌, inl, inr, List, [], ◌∷◌, sym, ap, subst, ◌∙◌, arith, rules}
use Rattle.rt_clause.specs.Literal.{Literal, negated}
use Rattle.rt_clause.specs.Lists.{has, IsMet, Decides}
use Rattle.rt_clause.proofs.Bools.{bool-cases}
use Rattle.rt_clause.proofs.Literals.{has-cases}
use Rattle.rt_clause.proofs.GateLaws.{IsDecided}

-- what holds of two literals, or of three, holds of each literal of the clause of them
pub each-of_two : (P : Literal → Type 0) (a b : Literal) → P a → P b → (l : Literal) → has (a ∷ b ∷ []) l ≡ true → P l
each-of_two P a b pa pb l h = elim (has-cases a l (b ∷ []) h) [
  | inl e ↦ subst P (sym e) pa
  | inr r ↦ elim (has-cases b l [] r) [ inl e ↦ subst P (sym e) pb | inr c ↦ absurd (cc) ]
]

pub each-of_three : (P : Literal → Type 0) (a b c : Literal) → P a → P b → P c → (l : Literal) → has (a ∷ b ∷ c ∷ []) l ≡ true → P l
each-of_three P a b c pa pb pc l h = elim (has-cases a l (b ∷ c ∷ []) h) [
  | inl e ↦ subst P (sym e) pa
  | inr r ↦ each-of_two P b c pb pc l r
]

-- a met clause all of whose literals but one are false has that one in the set
pub unit-has : (set c : List Literal) (out : Literal) → ((k : Literal) → has set k ≡ true → has set (negated k) ≡ false) → IsMet set c
    → ((l : Literal) → has c l ≡ true → (l ≡ out) ⊎ (has set (negated l) ≡ true)) → has set out ≡ true
unit-has set c out once met false_but = elim met [
  | inl x ↦ elim (false_but x.0 x.1) [ inl e ↦ ap (has set) (sym e) ∙ x.2 | inr f ↦ absurd (clash f (once x.0 x.2)) ]
  | inr y ↦ elim (false_but y.0 y.2) [
    | inl e ↦ elim (false_but y.1 y.3) [ inl g ↦ absurd (y.4 (e ∙ sym g)) | inr f ↦ absurd (clash f y.6) ]
    | inr f ↦ absurd (clash f y.5)
  ]
] where
  clash : {b : Bool} → b ≡ true → b ≡ false → ⊥
  clash p q = cc

-- with a new variable that is decided, one variable more is
pub decides-more : (set : List Literal) (n : ℕ) (out : Literal) → out.var ≡ n → Decides set n → IsDecided set out → Decides set (n + 1)
decides-more set n out e d o v h = elim (bool-cases (nat_lt v n)) [
  | inl y ↦ d v (search rules)
  | inr y ↦ (let g : n ≤ v = search rules in let q : v ≡ out.var = omega (arith, g, h, e) in
      let P : ℕ → Type 0 = λ w. (on : Bool) × (has set (record { var = w; on = on }) ≡ true) in
      subst P (sym q) (elim o [ inl t ↦ (out.on, t) | inr t ↦ (not out.on, t) ]))
]
