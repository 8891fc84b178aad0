-- A line that was used as a unit adds nothing when it is used again, whatever was added since.
use Rattle.std.proofs.Common.{◌≡◌, ℕ, Bool, true, false, not, cond, ◌||◌, List, [], ◌∷◌, refl, sym, ap, ◌∙◌, subst, inl, inr, arith}
use Rattle.std.proofs.lemmas.Bool.Decides.{nat_tests}
use Rattle.std.specs.BTreeMap.{is_at}
use Rattle.std.specs.List.{list_all, list_any}
use Rattle.std.specs.Ordering.{nat_cmp}
use Rattle.rt_clause.specs.Literal.{Literal, negated, lit_eq}
use Rattle.rt_clause.specs.Lists.{has, is_false, left, line_at, propagates}
use Rattle.rt_clause.proofs.Bools.{bool-cases, and-both}
use Rattle.rt_clause.proofs.Literals.{has-cases, has-head, has-tail, lit_eq-same, lit_eq-refl, negated-twice}
use Rattle.rt_derive.proofs.Left.{step-put}
use Rattle.rt_derive.specs.Spent.{AreUsedUp, IsUsedUp}

left-true : (set c : List Literal) (x : Literal) → has (left set c) x ≡ true → is_false set x ≡ false
left-true set [] x h = cc
left-true set (y ∷ c) x h = elim (bool-cases (is_false set y)) [
  | inl f ↦ left-true set c x (rw f at h)
  | inr f ↦ elim (has-cases y x (left set c) (rw f at h)) [ inl e ↦ ap (is_false set) e ∙ f | inr t ↦ left-true set c x t ]
]

one-alike : (k : Literal) (more : List Literal) (x : Literal) → list_all (lit_eq k) more ≡ true → has more x ≡ true → x ≡ k
one-alike k [] x a h = cc
one-alike k (y ∷ more) x a h =
    let both = and-both (lit_eq k y) (list_all (lit_eq k) more) a in
    elim (has-cases y x more h) [ inl e ↦ e ∙ sym (lit_eq-same k y both.0) | inr t ↦ one-alike k more x both.1 t ]

pub all-same : (k : Literal) (more : List Literal) (x : Literal) → list_all (lit_eq k) more ≡ true → has (k ∷ more) x ≡ true → x ≡ k
all-same k more x a h = elim (has-cases k x more h) [ inl e ↦ e | inr t ↦ one-alike k more x a t ]

not-own : (l : Literal) → lit_eq (negated l) l ≡ false
not-own l = elim (bool-cases (lit_eq (negated l) l)) [ inl t ↦ absurd (never l.on (ap (λ (k : Literal). k.on) (lit_eq-same (negated l) l t))) | inr f ↦ f ] where
  never : (b : Bool) → not b ≡ b → ⊥
  never true e = cc
  never false e = cc

-- of a clause of which one literal is left, adding a literal that is not its negation leaves the
-- same
module _ (set new : List Literal) (l : Literal) (n : (k : Literal) → has new k ≡ (lit_eq k l || has set k)) where
  unmoved : (c : List Literal) → ((x : Literal) → has (left set c) x ≡ true → is_false new x ≡ false) → left new c ≡ left set c
  unmoved [] h = refl
  unmoved (x ∷ c) h = elim (bool-cases (is_false set x)) [
    | inl f ↦ let g : is_false new x ≡ true = n (negated x) ∙ or_true (lit_eq (negated x) l) (is_false set x) f in rw (f, g) (unmoved c (λ y t. h y (rw f t)))
    | inr f ↦ let g : is_false new x ≡ false = h x (rw f (has-head x (left set c))) in rw (f, g) (ap (λ ys. x ∷ ys) (unmoved c (λ y t. h y (rw f (has-tail x y (left set c) t)))))
  ] where
    or_true : (a b : Bool) → b ≡ true → (a || b) ≡ true
    or_true true b e = refl
    or_true false b e = e

  same-left : (c : List Literal) (k : Literal) (more : List Literal) → left set c ≡ k ∷ more → list_all (lit_eq k) more ≡ true → lit_eq (negated k) l ≡ false → left new c ≡ k ∷ more
  same-left c k more e a o = unmoved c (λ x t. let is : x ≡ k = all-same k more x a (subst (λ (xs : List Literal). has xs x ≡ true) e t) in
      n (negated x) ∙ ap (λ j. lit_eq (negated j) l || is_false set j) is ∙ ap (λ b. b || is_false set k) o
      ∙ left-true set c k (subst (λ (xs : List Literal). has xs k ≡ true) (sym e) (has-head k more))) ∙ e

  pub stays : (lines : List (List Literal)) (h : ℕ) → is_false set l ≡ false → IsUsedUp lines set h → IsUsedUp lines new h
  stays lines h f s = record {
    unit = s.unit;
    more = s.more;
    parts = same-left (line_at lines h) s.unit s.more s.parts s.same other;
    same = s.same;
    held = n s.unit ∙ or_true (lit_eq s.unit l) (has set s.unit) s.held;
  } where
    or_true : (a b : Bool) → b ≡ true → (a || b) ≡ true
    or_true true b e = refl
    or_true false b e = e

    other : lit_eq (negated s.unit) l ≡ false
    other = elim (bool-cases (lit_eq (negated s.unit) l)) [
      | inl t ↦ absurd (let g : is_false set l ≡ true = ap (λ k. has set (negated k)) (sym (lit_eq-same (negated s.unit) l t)) ∙ ap (has set) (negated-twice s.unit) ∙ s.held in cc)
      | inr g ↦ g
    ]

  pub spent-now : (lines : List (List Literal)) (h : ℕ) (more : List Literal) → left set (line_at lines h) ≡ l ∷ more → list_all (lit_eq l) more ≡ true → IsUsedUp lines new h
  spent-now lines h more e a = record {
    unit = l;
    more = more;
    parts = same-left (line_at lines h) l more e a (not-own l);
    same = a;
    held = n l ∙ ap (λ b. b || has set l) (lit_eq-refl l);
  }

  -- the lines that were used before stay spent
  pub all-stay : (lines : List (List Literal)) (used : List ℕ) (h : ℕ) (more : List Literal) → left set (line_at lines h) ≡ l ∷ more → AreUsedUp lines set used → AreUsedUp lines new used
  all-stay lines used h more e s q u = stays lines q (left-true set (line_at lines h) l (subst (λ (xs : List Literal). has xs l ≡ true) (sym e) (has-head l more))) (s q u)

  -- and the line that was used is
  pub one-more : (lines : List (List Literal)) (old used : List ℕ) (h : ℕ) (more : List Literal) → left set (line_at lines h) ≡ l ∷ more → list_all (lit_eq l) more ≡ true → AreUsedUp lines set old
      → ((q : ℕ) → list_any (is_at (nat_cmp q)) used ≡ cond (is_at (nat_cmp h) q) true (list_any (is_at (nat_cmp q)) old))
      → AreUsedUp lines new used
  one-more lines old used h more e a s inserted q u = elim (bool-cases (is_at (nat_cmp h) q)) [
    | inl t ↦ let is : h ≡ q = at-is h q t in subst (λ i. IsUsedUp lines new i) is (spent-now lines h more e a)
    | inr f ↦ all-stay lines old h more e s q
        (ap (λ b. cond b true (list_any (is_at (nat_cmp q)) old)) (sym f) ∙ sym (inserted q) ∙ u)
  ] where
    at-is : (i j : ℕ) → is_at (nat_cmp i) j ≡ true → i ≡ j
    at-is i j t = grind (arith, nat_tests, t)

pub skip : (lines : List (List Literal)) (set : List Literal) (h : ℕ) → IsUsedUp lines set h → (hints : List ℕ) → propagates lines set (h ∷ hints) ≡ propagates lines set hints
skip lines set h s hints = step-put lines set set h hints s.unit (s.more, s.parts, s.same) known where
  known : (k : Literal) → has set k ≡ (lit_eq k s.unit || has set k)
  known k = elim (bool-cases (lit_eq k s.unit)) [
    | inl t ↦ ap (has set) (lit_eq-same k s.unit t) ∙ s.held ∙ ap (λ b. b || has set k) (sym t)
    | inr f ↦ ap (λ b. b || has set k) (sym f)
  ]

pub none-spent : (lines : List (List Literal)) (set : List Literal) (used : List ℕ) → used ≡ [] → AreUsedUp lines set used
none-spent lines set used e h t = absurd (let f : list_any (is_at (nat_cmp h)) [] ≡ true = subst (λ (xs : List ℕ). list_any (is_at (nat_cmp h)) xs ≡ true) e t in cc)
