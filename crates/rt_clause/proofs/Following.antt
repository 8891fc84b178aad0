-- A clause that follows is true in each model of the lines.
use Rattle.std.proofs.Common.{◌≡◌, ℕ, ◌<◌, Bool, true, false, not, cond, inl, inr, List, [], ◌∷◌, map, length, slice_index_or, sym, ap, ◌∙◌, arith, suc}
use Rattle.std.specs.List.{list_all, All as Each}
use Rattle.rt_clause.specs.Literal.{Literal, negated, lit_eq}
use Rattle.rt_clause.specs.Lists.{has, is_false, left, line_at, propagates, follows}
use Rattle.rt_clause.specs.Models.{lit_true, clause_true, IsModel}
use Rattle.rt_clause.proofs.Bools.{bool-cases, beq-not, or-cases, or-left, or-right, and-both}
use Rattle.rt_clause.proofs.Literals.{lit_eq-same, has-cases, has-map_negated}

pub lit_true-negated : (M : List Bool) (l : Literal) → lit_true M (negated l) ≡ not (lit_true M l)
lit_true-negated M l = beq-not (slice_index_or M l.var false) l.on

-- no literal of the set is false in M
abbrev pub Agrees : List Bool → List Literal → Type 0
Agrees M set = (l : Literal) → has set l ≡ true → lit_true M l ≡ true

false-where : (M : List Bool) (set : List Literal) → Agrees M set → (l : Literal) → is_false set l ≡ true → lit_true M l ≡ false
false-where M set ok l h =
    let a = ok (negated l) h in let b = lit_true-negated M l in
    elim (bool-cases (lit_true M l)) [ inl t ↦ absurd (let d : not (lit_true M l) ≡ false = ap not t in cc) | inr f ↦ f ]

-- the literals that are left keep a true one
left-true : (M : List Bool) (set : List Literal) → Agrees M set → (c : List Literal) → clause_true M c ≡ true → clause_true M (left set c) ≡ true
left-true M set ok [] h = h
left-true M set ok (l ∷ c) h =
    elim (bool-cases (is_false set l)) [
      | inl f ↦ rw f (elim (or-cases (lit_true M l) (clause_true M c) h) [ inl t ↦ absurd (let g = false-where M set ok l f in cc) | inr t ↦ left-true M set ok c t ])
      | inr f ↦ rw f (elim (or-cases (lit_true M l) (clause_true M c) h) [ inl t ↦ or-left (lit_true M l) _ t | inr t ↦ or-right (lit_true M l) _ (left-true M set ok c t) ])
    ]

all-same-true : (M : List Bool) (l : Literal) (ls : List Literal) → list_all (lit_eq l) ls ≡ true → clause_true M ls ≡ true → lit_true M l ≡ true
all-same-true M l [] a h = cc
all-same-true M l (k ∷ ls) a h =
    let b = and-both (lit_eq l k) (list_all (lit_eq l) ls) a in
    elim (or-cases (lit_true M k) (clause_true M ls) h) [ inl t ↦ ap (lit_true M) (lit_eq-same l k b.0) ∙ t | inr t ↦ all-same-true M l ls b.1 t ]

same-true : (M : List Bool) (l : Literal) (ls : List Literal) → list_all (lit_eq l) ls ≡ true → clause_true M (l ∷ ls) ≡ true → lit_true M l ≡ true
same-true M l ls a h = elim (or-cases (lit_true M l) (clause_true M ls) h) [ inl t ↦ t | inr t ↦ all-same-true M l ls a t ]

agrees-add : (M : List Bool) (set : List Literal) (l : Literal) → Agrees M set → lit_true M l ≡ true → Agrees M (l ∷ set)
agrees-add M set l ok t k h = elim (has-cases l k set h) [ inl a ↦ ap (lit_true M) a ∙ t | inr b ↦ ok k b ]

-- no model of the lines agrees with a set from which propagation ends in a false line
pub propagates-none : (lines : List (List Literal)) (M : List Bool) → IsModel lines M → (set : List Literal) (hints : List ℕ) → Each (λ h. h < length lines) hints
    → Agrees M set → propagates lines set hints ≡ true → ⊥
propagates-none lines M m set [] e ok p = cc
propagates-none lines M m set (h ∷ hints) e ok p =
    let t = left-true M set ok (line_at lines h) (m h (e 0 0 (omega arith))) in
    let go : (c : List Literal) → clause_true M c ≡ true → (elim c as (λ _. Bool) [ [] ↦ true | l ∷ ls ↦ cond (list_all (lit_eq l) ls) (propagates lines (l ∷ set) hints) false ]) ≡ true → ⊥ =
    elim [
      | [] ↦ λ u q. cc
      | l ∷ ls ↦ λ u q. elim (bool-cases (list_all (lit_eq l) ls)) [
        | inl a ↦ propagates-none lines M m (l ∷ set) hints (λ k d w. e (suc k) d (omega arith)) (agrees-add M set l ok (same-true M l ls a u)) (rw a at q)
        | inr a ↦ (let r = rw a at q in cc)
      ]
    ] in
    go (left set (line_at lines h)) t p

pub clause_true-has : (M : List Bool) (ls : List Literal) (l : Literal) → has ls l ≡ true → lit_true M l ≡ true → clause_true M ls ≡ true
clause_true-has M [] l h t = h
clause_true-has M (k ∷ ls) l h t = elim (has-cases k l ls h) [
  | inl a ↦ or-left (lit_true M k) _ (ap (lit_true M) (sym a) ∙ t)
  | inr b ↦ or-right (lit_true M k) _ (clause_true-has M ls l b t)
]

pub follows-true : (lines : List (List Literal)) (c : List Literal) (hints : List ℕ) → Each (λ h. h < length lines) hints → follows lines c hints ≡ true
    → (M : List Bool) → IsModel lines M → clause_true M c ≡ true
follows-true lines c hints e f M m = elim (bool-cases (clause_true M c)) [
  | inl t ↦ t
  | inr n ↦ absurd (propagates-none lines M m (map negated c) hints e (denied c n) f)
] where
  denied : (ls : List Literal) → clause_true M ls ≡ false → Agrees M (map negated ls)
  denied ls n k h =
      elim (bool-cases (lit_true M k)) [
        | inl t ↦ t
        | inr w ↦ absurd (let a = clause_true-has M ls (negated k) (has-map_negated ls k h) (lit_true-negated M k ∙ ap not w) in cc)
      ]
