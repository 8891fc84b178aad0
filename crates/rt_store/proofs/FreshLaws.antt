-- The first law, and the step back.
use Rattle.std.proofs.Common.{◌≡◌, ◌≢◌, ℕ, ◌+◌, ◌<◌, ◌≤◌, Bool, true, false, not, nat_eq, nat_lt, List, [], ◌∷◌, ◌++◌, length, refl, sym, ap, subst, ◌∙◌, ◌⊎◌, inl, inr, Option, None, arith, rules, length-append}
use Rattle.std.proofs.lemmas.Grind.{common_steps}
use Rattle.rt_clause.specs.Literal.{Literal, negated, lit_eq}
use Rattle.rt_clause.specs.Lists.{has, line_at, IsMet, Closed, Fresh, HasNoRepeat}
use Rattle.rt_clause.proofs.Bools.{bool-cases, or-false}
use Rattle.rt_clause.proofs.Literals.{has-cases, negated-twice, negated-same}
use Rattle.rt_store.specs.declared.trail.Step.{Step}
use Rattle.rt_store.specs.declared.trail.Why.{Why}
use Rattle.rt_store.specs.declared.trail.Why.TheVariants.{Line, Decided, Assumed}
use Rattle.rt_store.specs.Trail.{lits, value_in, IsApart, IsUnit, RestsOn, IsFounded, BeforeDecisions, IfDecided}
use Rattle.rt_store.proofs.Number.{none-apart}

-- a literal whose variable has no value is not there
pub absent-lit : (t : List Step) (l : Literal) → value_in t l.var ≡ None → has (lits t) l ≡ false
absent-lit [] l h = refl
absent-lit (s ∷ t) l h = elim (bool-cases (has (lits (s ∷ t)) l)) [
  | inl y ↦ absurd (elim (has-cases s.lit l (lits t) y) [
    | inl e ↦ (let p = none-apart s t l.var h in let q : nat_eq s.lit.var s.lit.var ≡ false = (let P : Literal → Type 0 = λ k. nat_eq s.lit.var k.var ≡ false in subst P e p.0) in search rules)
    | inr r ↦ (let p = none-apart s t l.var h in let q = absent-lit t l p.1 in cc)
  ])
  | inr n ↦ n
]

pub founded-above : (lines : List (List Literal)) (assume : Option Literal) (above t : List Step) → IsFounded lines assume (above ++ t) → IsFounded lines assume t
founded-above lines assume [] t h = h
founded-above lines assume (s ∷ above) t h = founded-above lines assume above t h.1

pub apart-above : (m : ℕ) (above t : List Step) → IsApart m (above ++ t) → IsApart m t
apart-above m [] t h = h
apart-above m (s ∷ above) t h = apart-above m above t h.2

-- the first law: the part before a decision shows that the learned clause is fresh
pub first_law : (lines : List (List Literal)) (assume : Option Literal) (above before : List Step) (d : Step)
    → IsFounded lines assume (above ++ d ∷ before) → d.why ≡ Decided
    → (front : List Literal) (last : Literal) → ((l : Literal) → has front l ≡ true → has (lits before) (negated l) ≡ true) → value_in before last.var ≡ None → HasNoRepeat (front ++ last ∷ [])
    → Fresh lines assume (front ++ last ∷ [])
first_law lines assume above before d f w front last denied unset once =
    let P : Why → Type 0 = λ y. RestsOn lines assume before d.lit y in
    let k = subst P w (founded-above lines assume above (d ∷ before) f).0 in
    record {
      front = front;
      last = last;
      parts = refl;
      once = once;
      set = lits before;
      closed = k.0;
      assumed = k.1;
      denied = denied;
      unset = absent-lit before last unset;
      unset_negated = absent-lit before (negated last) unset;
    }

pub line_at-append : (lines more : List (List Literal)) (i : ℕ) → i < length lines → line_at (lines ++ more) i ≡ line_at lines i
line_at-append lines more i h = grind (arith, common_steps)

pub line_at-end : (lines : List (List Literal)) (c : List Literal) → line_at (lines ++ c ∷ []) (length lines) ≡ c
line_at-end lines c = grind (arith, common_steps)

-- a closed set stays closed where it meets the new line
pub closed-push : (lines : List (List Literal)) (c set : List Literal) → Closed lines set → IsMet set c → Closed (lines ++ c ∷ []) set
closed-push lines c set h m = record {
  consistent = h.consistent;
  met = λ i b.
      let e = length-append lines (c ∷ []) in
      let P : List Literal → Type 0 = IsMet set in
      elim (lt-or-eq i (length lines) (omega (arith, e, b))) [
        | inl l ↦ subst P (sym (line_at-append lines (c ∷ []) i l)) (h.met i l)
        | inr q ↦ subst P (sym (ap (line_at (lines ++ c ∷ [])) q ∙ line_at-end lines c)) m
      ];
} where
  lt-or-eq : (i n : ℕ) → i < n + 1 → (i < n) ⊎ (i ≡ n)
  lt-or-eq i n h = elim (bool-cases (nat_lt i n)) [ inl y ↦ inl (search rules) | inr y ↦ inr (let g : n ≤ i = search rules in omega arith) ]

-- each step stays founded as a line comes that is met before each decision
pub founded-push : (lines : List (List Literal)) (c : List Literal) (assume : Option Literal) (t : List Step) → BeforeDecisions (λ set. IsMet set c) t → IsFounded lines assume t → IsFounded (lines ++ c ∷ []) assume t
founded-push lines c assume [] b f = tt
founded-push lines c assume (s ∷ t) b f = (each s.why b.0 f.0, founded-push lines c assume t b.1 f.1) where
  each : (w : Why) → IfDecided w (IsMet (lits t) c) → RestsOn lines assume t s.lit w → RestsOn (lines ++ c ∷ []) assume t s.lit w
  each (Line r) b h = (
    let e = length-append lines (c ∷ []) in let l = h.0 in omega (arith, e, l),
    let Q : List Literal → Type 0 = λ y. IsUnit y (lits t) s.lit in subst Q (sym (line_at-append lines (c ∷ []) r h.0)) h.1,
  )
  each Decided b h = (closed-push lines c (lits t) h.0 b, h.1)
  each Assumed b h = h

-- a literal that is nowhere in a trail is not there before any decision
pub nowhere-before : (c : List Literal) (l : Literal) (t : List Step) → has (lits t) l ≡ false → BeforeDecisions (λ set. has set l ≡ false) t
nowhere-before c l [] h = tt
nowhere-before c l (s ∷ t) h = let r = (or-false (lit_eq l s.lit) (has (lits t) l) h).1 in (each s.why r, nowhere-before c l t r) where
  each : (w : Why) → has (lits t) l ≡ false → IfDecided w (has (lits t) l ≡ false)
  each (Line r) h = tt
  each Decided h = h
  each Assumed h = tt

-- a clause with the negations of two literals, of which none is there before any decision, is met before each
pub met-before : (m : ℕ) (kept : List Step) (c : List Literal) (late early : Literal) → IsApart m kept → BeforeDecisions (λ set. has set early ≡ false) kept → has (lits kept) late ≡ false → late ≢ early
    → has c (negated late) ≡ true → has c (negated early) ≡ true → BeforeDecisions (λ set. IsMet set c) kept
met-before m kept c late early a n out apart hl he = both kept (nowhere-before [] late kept out) n where
  both : (t : List Step) → BeforeDecisions (λ set. has set late ≡ false) t → BeforeDecisions (λ set. has set early ≡ false) t → BeforeDecisions (λ set. IsMet set c) t
  both [] x y = tt
  both (s ∷ t) x y = (each s.why x.0 y.0, both t x.1 y.1) where
    each : (w : Why) → IfDecided w (has (lits t) late ≡ false) → IfDecided w (has (lits t) early ≡ false) → IfDecided w (IsMet (lits t) c)
    each (Line r) x y = tt
    each Assumed x y = tt
    each Decided x y =
        inr (negated late, negated early, hl, he, (λ e. apart (negated-same late early e)), ap (has (lits t)) (negated-twice late) ∙ x, ap (has (lits t)) (negated-twice early) ∙ y)

flips : (b : Bool) → not b ≡ b → ⊥
flips true q = cc
flips false q = cc

-- no trail has a literal with its negation
pub consistent : (n : ℕ) (u : List Step) → IsApart n u → (l : Literal) → has (lits u) l ≡ true → has (lits u) (negated l) ≡ false
consistent n [] b l g = refl
consistent n (s ∷ u) b l g = elim (bool-cases (has (lits (s ∷ u)) (negated l))) [
  | inr f ↦ f
  | inl y ↦ absurd (elim (has-cases s.lit l (lits u) g) [
    | inl e ↦ elim (has-cases s.lit (negated l) (lits u) y) [
      | inl e' ↦ (let q : not l.on ≡ l.on = ap (λ (j : Literal). j.on) (e' ∙ sym e) in flips l.on q)
      | inr r ↦ (let v : value_in u l.var ≡ None = (let P : Literal → Type 0 = λ k. value_in u k.var ≡ None in subst P (sym e) b.1) in let n' = absent-lit u (negated l) v in cc)
    ]
    | inr r ↦ elim (has-cases s.lit (negated l) (lits u) y) [
      | inl e' ↦ (let v : value_in u l.var ≡ None = (let P : ℕ → Type 0 = λ k. value_in u k ≡ None in subst P (ap (λ (j : Literal). j.var) (sym e')) b.1) in let n' = absent-lit u l v in cc)
      | inr r' ↦ (let n' = consistent n u b.2 l r in cc)
    ]
  ])
]
