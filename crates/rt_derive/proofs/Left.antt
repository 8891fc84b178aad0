-- What is left of a line under a set of literals, and propagation along hints step by step.
use Rattle.std.proofs.Common.{◌≡◌, ℕ, suc, ◌+◌, ◌<◌, ◌≤◌, Bool, true, false, cond, ◌||◌, List, [], ◌∷◌, ◌++◌, length, take, drop, get_or, map, take-append-drop, drop-cons, add-one, refl, sym, ap, ◌∙◌, subst, inl, inr, Option, Some, None}
use Rattle.std.proofs.lemmas.List.{take_more, take_all}
use Rattle.std.specs.List.{list_all}
use Rattle.rt_clause.specs.Literal.{Literal, negated, lit_eq}
use Rattle.rt_clause.specs.Lists.{has, is_false, left, line_at, propagates}
use Rattle.rt_clause.proofs.Bools.{bool-cases}
use Rattle.rt_clause.proofs.Propagating.{step-one}
use Rattle.rt_derive.specs.Spent.{Takes}

left-append : (set a b : List Literal) → left set (a ++ b) ≡ left set a ++ left set b
left-append set [] b = refl
left-append set (x ∷ a) b = elim (bool-cases (is_false set x)) [ inl f ↦ rw f (left-append set a b) | inr f ↦ rw f (ap (λ ys. x ∷ ys) (left-append set a b)) ]

left-one : (set : List Literal) (l : Literal) → is_false set l ≡ false → left set (l ∷ []) ≡ l ∷ []
left-one set l f = rw f refl

left-step : (set c : List Literal) (i : ℕ) (l : Literal) → i < length c → l ≡ get_or c i l → left set (take (i + 1) c) ≡ left set (take i c) ++ left set (l ∷ [])
left-step set c i l h e = ap (left set) (take_more c i l h ∙ ap (λ v. take i c ++ v ∷ []) (sym e)) ∙ left-append set (take i c) (l ∷ [])

-- a literal that is not false comes last
left-more : (set c : List Literal) (i : ℕ) (l : Literal) → i < length c → l ≡ get_or c i l → is_false set l ≡ false → left set (take (i + 1) c) ≡ left set (take i c) ++ l ∷ []
left-more set c i l h e f = left-step set c i l h e ∙ ap (λ ys. left set (take i c) ++ ys) (left-one set l f)

all-snoc : (p : Literal → Bool) (ks ms : List Literal) (l : Literal) → p l ≡ false → list_all p ((ks ++ l ∷ []) ++ ms) ≡ false
all-snoc p [] ms l f = rw f refl
all-snoc p (k ∷ ks) ms l f = elim (bool-cases (p k)) [ inl t ↦ rw t (all-snoc p ks ms l f) | inr t ↦ rw t refl ]

-- two different literals are left
pub several : (set c : List Literal) (i : ℕ) (l first : Literal) (more : List Literal) → i < length c → l ≡ get_or c i l → is_false set l ≡ false
    → left set (take i c) ≡ first ∷ more → lit_eq first l ≡ false
    → (x : Literal) × (xs : List Literal) × (left set c ≡ x ∷ xs) × (list_all (lit_eq x) xs ≡ false)
several set c i l first more h e f k d = (
  first,
  (more ++ l ∷ []) ++ left set (drop (i + 1) c),
  ap (left set) (sym (take-append-drop (i + 1) c)) ∙ left-append set (take (i + 1) c) (drop (i + 1) c)
      ∙ ap (λ ys. ys ++ left set (drop (i + 1) c)) (left-more set c i l h e f ∙ ap (λ ys. ys ++ l ∷ []) k),
  all-snoc (lit_eq first) more (left set (drop (i + 1) c)) l d,
)

-- what follows of sets with the same literals is the same
left-agrees : (a b : List Literal) → ((l : Literal) → has a l ≡ has b l) → (c : List Literal) → left a c ≡ left b c
left-agrees a b h [] = refl
left-agrees a b h (l ∷ c) = let t = left-agrees a b h c in let e = h (negated l) in elim (bool-cases (is_false a l)) [
  | inl f ↦ let g : is_false b l ≡ true = sym e ∙ f in rw (f, g) t
  | inr f ↦ let g : is_false b l ≡ false = sym e ∙ f in rw (f, g) (ap (λ ys. l ∷ ys) t)
]

abbrev go : List (List Literal) → List Literal → List ℕ → List Literal → Bool
go lines set hints rest = elim rest [ [] ↦ true | l ∷ ls ↦ cond (list_all (lit_eq l) ls) (propagates lines (l ∷ set) hints) false ]

pub propagates-agrees : (lines : List (List Literal)) (a b : List Literal) → ((l : Literal) → has a l ≡ has b l) → (hints : List ℕ) → propagates lines a hints ≡ propagates lines b hints
propagates-agrees lines a b h [] = refl
propagates-agrees lines a b h (i ∷ hints) =
    let both : (rest : List Literal) → go lines a hints rest ≡ go lines b hints rest =
    elim [ [] ↦ refl | l ∷ ls ↦ ap (λ y. cond (list_all (lit_eq l) ls) y false) (propagates-agrees lines (l ∷ a) (l ∷ b) (λ k. ap (λ z. lit_eq k l || z) (h k)) hints) ] in
    ap (go lines a hints) (left-agrees a b h (line_at lines i)) ∙ both (left b (line_at lines i))

-- a line with one literal left adds that literal
pub step-put : (lines : List (List Literal)) (set new : List Literal) (h : ℕ) (hints : List ℕ) (l : Literal)
    → ((more : List Literal) × (left set (line_at lines h) ≡ l ∷ more) × (list_all (lit_eq l) more ≡ true)) → ((k : Literal) → has new k ≡ (lit_eq k l || has set k))
    → propagates lines set (h ∷ hints) ≡ propagates lines new hints
step-put lines set new h hints l m n =
    step-one lines set h hints l m ∙ propagates-agrees lines (l ∷ set) new (λ k. sym (n k)) hints

pub begin : (lines : List (List Literal)) (held lits : List Literal) (hints : List ℕ) (i : ℕ) → length lits ≤ i → ((k : Literal) → has held k ≡ has (map negated (take i lits)) k)
    → propagates lines (map negated lits) hints ≡ propagates lines held (drop 0 hints)
begin lines held lits hints i e h =
    propagates-agrees lines (map negated lits) held (λ k. ap (λ ys. has (map negated ys) k) (sym (take_all i lits e)) ∙ sym (h k)) hints

-- two different literals are left
pub step-several : (lines : List (List Literal)) (set : List Literal) (h : ℕ) (hints : List ℕ)
    → ((l : Literal) × (more : List Literal) × (left set (line_at lines h) ≡ l ∷ more) × (list_all (lit_eq l) more ≡ false))
    → propagates lines set (h ∷ hints) ≡ false
step-several lines set h hints s = ap (go lines set hints) s.2 ∙ ap (λ b. cond b (propagates lines (s.0 ∷ set) hints) false) s.3

hinted : (lines : List (List Literal)) (held : List Literal) (hints : List ℕ) (i : ℕ) → i < length hints → propagates lines held (drop i hints) ≡ propagates lines held (get_or hints i 0 ∷ drop (suc i) hints)
hinted lines held hints i h = ap (propagates lines held) (drop-cons hints i 0 h)

-- the hint at i gives the answer, or the next one is used
pub answered : (lines : List (List Literal)) (held new : List Literal) (hints : List ℕ) (i : ℕ) (o : Option Bool) (answer : Bool) → i < length hints
    → Takes lines held new (get_or hints i 0) o → o ≡ Some answer → propagates lines held (drop i hints) ≡ answer
answered lines held new hints i o answer h t e = hinted lines held hints i h ∙ (let w = subst (Takes lines held new (get_or hints i 0)) e t in w (drop (suc i) hints))

pub next : (lines : List (List Literal)) (held new : List Literal) (hints : List ℕ) (i : ℕ) (o : Option Bool) → i < length hints
    → Takes lines held new (get_or hints i 0) o → o ≡ None → propagates lines held (drop i hints) ≡ propagates lines new (drop (i + 1) hints)
next lines held new hints i o h t e =
    hinted lines held hints i h ∙ (let w = subst (Takes lines held new (get_or hints i 0)) e t in w (drop (suc i) hints))
    ∙ ap (λ j. propagates lines new (drop j hints)) (sym (add-one i))
