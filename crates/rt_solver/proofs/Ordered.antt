-- Models where each decision sets the smallest open variable to true.
use Rattle.std.proofs.Common.{◌≡◌, ◌≢◌, ℕ, ◌<◌, ◌≤◌, Bool, true, false, not, nat_eq, nat_lt, List, [], ◌∷◌, ◌++◌, refl, sym, ap, subst, ◌∙◌, inl, inr, Option, Some, None, IfSome, arith, rules, slice_index_or}
use Rattle.std.specs.Prelude.{is_some}
use Rattle.std.specs.Bool.{beq}
use Rattle.rt_clause.specs.Literal.{Literal, negated}
use Rattle.rt_clause.specs.Lists.{has, line_at}
use Rattle.rt_clause.specs.Models.{lit_true, clause_true, IsModel}
use Rattle.rt_clause.proofs.Bools.{bool-cases, or-cases}
use Rattle.rt_clause.proofs.Literals.{has-head, has-tail, has-cases}
use Rattle.rt_store.specs.declared.trail.Step.{Step}
use Rattle.rt_store.specs.declared.trail.Why.{Why}
use Rattle.rt_store.specs.declared.trail.Why.TheVariants.{Line, Decided, Assumed}
use Rattle.rt_solver.specs.declared.order.Order.{Order}
use Rattle.rt_solver.specs.declared.order.Order.TheVariants.{Free, Fixed}
use Rattle.rt_store.specs.Trail.{lits, value_in, IsApart, RestsOn, IsFounded, IfDecided, decisions, decided_by}
use Rattle.rt_solver.specs.Search.{HasValues, KeepsModels}
use Rattle.rt_solver.specs.Answers.{Reads}
use Rattle.rt_solver.specs.Fixed.{IfFixed, AreSmallest, IsGreatest}
use Rattle.rt_solver.specs.Propagating.{AreForced, IsPropagated}
use Rattle.rt_store.proofs.Number.{none-apart}

-- a true clause has a true literal
pub true-among : (bools : List Bool) (c : List Literal) → clause_true bools c ≡ true → (k : Literal) × (has c k ≡ true) × (lit_true bools k ≡ true)
true-among bools [] h = absurd (cc)
true-among bools (l ∷ c) h = elim (or-cases (lit_true bools l) (clause_true bools c) h) [
  | inl a ↦ (l, has-head l c, a)
  | inr b ↦ (let r = true-among bools c b in (r.0, has-tail l r.0 c r.1, r.2))
]

pub not-both : (bools : List Bool) (k : Literal) → lit_true bools k ≡ true → lit_true bools (negated k) ≡ true → ⊥
not-both bools k a b = differ (slice_index_or bools k.var false) k.on a b where
  differ : (x y : Bool) → beq x y ≡ true → beq x (not y) ≡ true → ⊥
  differ true true p q = cc
  differ true false p q = cc
  differ false true p q = cc
  differ false false p q = cc

abbrev pub AllTrue : List Bool → List Step → Type 0
AllTrue bools t = (l : Literal) → has (lits t) l ≡ true → lit_true bools l ≡ true

-- what is no decision is true in each model in which all before it is
pub forced : (lines : List (List Literal)) (assume : Option Literal) (bools : List Bool) (before : List Step) (l : Literal) (w : Why) → RestsOn lines assume before l w → IsModel lines bools → IfSome assume (λ a. lit_true bools a ≡ true)
    → AllTrue bools before → (w ≡ Decided → lit_true bools l ≡ true) → lit_true bools l ≡ true
forced lines assume bools before l (Line r) h m a all d =
    let k = true-among bools (line_at lines r) (m r h.0) in
    elim (h.1.others k.0 k.1) [
      | inl e ↦ (let P : Literal → Type 0 = λ x. lit_true bools x ≡ true in subst P e k.2)
      | inr f ↦ absurd (not-both bools k.0 k.2 (all (negated k.0) f))
    ]
forced lines assume bools before l Decided h m a all d = d refl
forced lines assume bools before l Assumed h m a all d = let P : Option Literal → Type 0 = λ o. IfSome o (λ x. lit_true bools x ≡ true) in subst P h a

pub all-more : (bools : List Bool) (s : Step) (t : List Step) → lit_true bools s.lit ≡ true → AllTrue bools t → AllTrue bools (s ∷ t)
all-more bools s t h all l g = elim (has-cases s.lit l (lits t) g) [
  | inl e ↦ (let P : Literal → Type 0 = λ x. lit_true bools x ≡ true in subst P (sym e) h)
  | inr r ↦ all l r
]

if-decided : (P : Type 0) (w : Why) → w ≡ Decided → IfDecided w P → P
if-decided P (Line r) e h = absurd (cc)
if-decided P Decided e h = h
if-decided P Assumed e h = absurd (cc)

-- before a variable has its value, all is true in a model that agrees on the smaller ones
agree : (lines : List (List Literal)) (assume : Option Literal) (bools other : List Bool) (t : List Step) (v : ℕ) → IsFounded lines assume t → AreSmallest t → AllTrue bools t → IsModel lines other → IfSome assume (λ a. lit_true other a ≡ true)
    → ((u : ℕ) → u < v → slice_index_or other u false ≡ slice_index_or bools u false) → value_in t v ≡ None → AllTrue other t
agree lines assume bools other [] v f o b m a e n = λ l g. absurd (cc)
agree lines assume bools other (s ∷ t) v f o b m a e n =
    let p = none-apart s t v n in
    let rest = agree lines assume bools other t v f.1 o.1 (λ l g. b l (has-tail s.lit l (lits t) g)) m a e p.1 in
    all-more other s t (forced lines assume other t s.lit s.why f.0 m a rest (λ d.
    let c = if-decided ((s.lit.on ≡ true) × HasValues s.lit.var t) s.why d o.0 in
    let low : s.lit.var < v = smaller s.lit.var v c.1 p.0 p.1 in
    ap (λ x. beq x s.lit.on) (e s.lit.var low) ∙ b s.lit (has-head s.lit (lits t)))) rest where
      smaller : (u w : ℕ) → HasValues u t → nat_eq u w ≡ false → value_in t w ≡ None → u < w
      smaller u w h q k = elim (bool-cases (nat_lt w u)) [
        | inl y ↦ absurd (let x = h w (search rules) in let z : is_some (value_in t w) ≡ false = ap is_some k in cc)
        | inr y ↦ (let x : u ≤ w = search rules in let d : u ≢ w = (λ z. let c : nat_eq u w ≡ true = search rules in cc) in omega (arith, x, d))
      ]

-- a false variable is false in such a model
false-there : (lines : List (List Literal)) (assume : Option Literal) (m : ℕ) (bools other : List Bool) (t : List Step) (v : ℕ) → IsApart m t → IsFounded lines assume t → AreSmallest t → AllTrue bools t → IsModel lines other → IfSome assume (λ a. lit_true other a ≡ true)
    → ((u : ℕ) → u < v → slice_index_or other u false ≡ slice_index_or bools u false) → value_in t v ≡ Some false → slice_index_or other v false ≡ false
false-there lines assume m bools other [] v ap' f o b md a e n = absurd (cc)
false-there lines assume m bools other (s ∷ t) v ap' f o b md a e n =
    let older = λ (l : Literal) (g : has (lits t) l ≡ true). b l (has-tail s.lit l (lits t) g) in
    elim (bool-cases (nat_eq s.lit.var v)) [
      | inl y ↦ (let q : s.lit.var ≡ v = search rules in
          let g = rw y at n in
          let off : s.lit.on ≡ false = cc in
          let unset : value_in t v ≡ None = (let P : ℕ → Type 0 = λ w. value_in t w ≡ None in subst P q ap'.1) in
          let all = agree lines assume bools other t v f.1 o.1 older md a e unset in
          let h = forced lines assume other t s.lit s.why f.0 md a all (λ d. absurd (let c = if-decided ((s.lit.on ≡ true) × HasValues s.lit.var t) s.why d o.0 in let z = c.0 in cc)) in
          ap (λ w. slice_index_or other w false) (sym q) ∙ off-of (slice_index_or other s.lit.var false) s.lit.on h off)
      | inr z ↦ (let g = rw z at n in false-there lines assume m bools other t v ap'.2 f.1 o.1 older md a e g)
    ] where
      off-of : (x y : Bool) → beq x y ≡ true → y ≡ false → x ≡ false
      off-of true true h k = cc
      off-of true false h k = absurd (cc)
      off-of false y h k = refl

-- the literals of a trail are true where its values are read
pub read-true : (m : ℕ) (t : List Step) (bools : List Bool) → IsApart m t → Reads m t bools → AllTrue bools t
read-true m t bools a r l h =
    let low = var-low t l a h in
    let v = value-of t l a h in
    let q : Some (slice_index_or bools l.var false) ≡ Some l.on = sym (r l.var low) ∙ v in
    let e : slice_index_or bools l.var false ≡ l.on = cc in
    ap (λ x. beq x l.on) e ∙ same l.on where
      same : (x : Bool) → beq x x ≡ true
      same true = refl
      same false = refl

      var-low : (x : List Step) (k : Literal) → IsApart m x → has (lits x) k ≡ true → k.var < m
      var-low [] k p g = absurd (cc)
      var-low (s ∷ x) k p g = elim (has-cases s.lit k (lits x) g) [
        | inl e ↦ (let P : Literal → Type 0 = λ j. j.var < m in subst P (sym e) p.0)
        | inr y ↦ var-low x k p.2 y
      ]

      value-of : (x : List Step) (k : Literal) → IsApart m x → has (lits x) k ≡ true → value_in x k.var ≡ Some k.on
      value-of [] k p g = absurd (cc)
      value-of (s ∷ x) k p g = elim (has-cases s.lit k (lits x) g) [
        | inl e ↦ (let c : nat_eq s.lit.var s.lit.var ≡ true = search rules in let P : Literal → Type 0 = λ j. value_in (s ∷ x) j.var ≡ Some j.on in subst P (sym e) (rw c refl))
        | inr y ↦ (let z = value-of x k p.2 y in elim (bool-cases (nat_eq s.lit.var k.var)) [
          | inl c ↦ absurd (let d : s.lit.var ≡ k.var = search rules in let u = ap (value_in x) d in let w = p.1 in cc)
          | inr c ↦ rw c z
        ])
      ]

-- so is the model that a search in order finds
pub greatest : (old lines : List (List Literal)) (assume : Option Literal) (first m : ℕ) (t : List Step) (bools : List Bool) → first ≤ m → IsApart m t → IsFounded lines assume t → AreSmallest t → Reads m t bools → KeepsModels old lines → IsGreatest old assume first bools
greatest old lines assume first m t bools b a f o r k other md given v low e off =
    false-there lines assume m bools other t v a f o (read-true m t bools a r) (k other md) given e (r v (omega (arith, low, b)) ∙ ap Some off)

-- decisions stay those of the smallest as steps come that are none, or go
pub smallest-forced : (lines : List (List Literal)) (old new : List Step) → IsPropagated lines old new → AreSmallest old → AreSmallest new
smallest-forced lines old new p h = let P : List Step → Type 0 = AreSmallest in subst P (sym p.steps) (more p.above p.forced) where
  more : (above : List Step) → AreForced lines above old → AreSmallest (above ++ old)
  more [] g = h
  more (s ∷ above) g = (let x = g.0 in let Q : Why → Type 0 = λ w. IfDecided w ((s.lit.on ≡ true) × HasValues s.lit.var (above ++ old)) in subst Q (sym x.why) tt, more above g.1)

pub smallest-part : (above kept : List Step) → AreSmallest (above ++ kept) → AreSmallest kept
smallest-part [] kept h = h
smallest-part (s ∷ above) kept h = smallest-part above kept h.1

pub smallest-learned : (trail kept after above : List Step) (d l : Step) (n : ℕ) → trail ≡ above ++ d ∷ kept → after ≡ l ∷ kept → l.why ≡ Line n → AreSmallest trail → AreSmallest after
smallest-learned trail kept after above d l n e q w h =
    let P : List Step → Type 0 = AreSmallest in
    let k = (smallest-part above (d ∷ kept) (subst P e h)).1 in
    let Q : Why → Type 0 = λ y. IfDecided y ((l.lit.on ≡ true) × HasValues l.lit.var kept) in
    subst P (sym q) (subst Q (sym w) tt, k)

pub smallest-decided : (order : Order) (before after : List Step) (s : Step) → after ≡ s ∷ before → s.why ≡ Decided → IfFixed order (AreSmallest before) → (order ≡ Fixed → (s.lit.on ≡ true) × HasValues s.lit.var before) → IfFixed order (AreSmallest after)
smallest-decided Free before after s e w h d = tt
smallest-decided Fixed before after s e w h d =
    let P : List Step → Type 0 = AreSmallest in
    let Q : Why → Type 0 = λ y. IfDecided y ((s.lit.on ≡ true) × HasValues s.lit.var before) in
    subst P (sym e) (subst Q (sym w) (d refl), h)

pub if-fixed : (order : Order) (P Q : Type 0) → (P → Q) → IfFixed order P → IfFixed order Q
if-fixed Free P Q f h = tt
if-fixed Fixed P Q f h = f h

-- no decision yet
pub smallest-undecided : (t : List Step) → decisions t ≡ [] → AreSmallest t
smallest-undecided [] e = tt
smallest-undecided (s ∷ t) e = by s.why e (smallest-undecided t) where
  by : (w : Why) → decided_by w s.lit (decisions t) ≡ [] → (decisions t ≡ [] → AreSmallest t) → IfDecided w ((s.lit.on ≡ true) × HasValues s.lit.var t) × AreSmallest t
  by (Line r) q f = (tt, f q)
  by Decided q f = absurd (cc)
  by Assumed q f = (tt, f q)

pub all-fixed : (order : Order) (P : Type 0) → P → IfFixed order P
all-fixed Free P h = tt
all-fixed Fixed P h = h
