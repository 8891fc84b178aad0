-- A question that is decided before all else: where it is false, nothing is decided.
use Rattle.std.proofs.Common.{◌≡◌, ℕ, ◌<◌, Bool, true, false, List, [], ◌∷◌, ◌++◌, refl, sym, subst, ◌⊎◌, inl, inr, Option, Some, None, IfSome, arith}
use Rattle.rt_clause.specs.Literal.{Literal, negated}
use Rattle.rt_clause.specs.Lists.{has, is_false}
use Rattle.rt_clause.proofs.Bools.{bool-cases}
use Rattle.rt_clause.proofs.Literals.{has-head, has-tail, negated-twice}
use Rattle.rt_store.specs.declared.trail.Step.{Step}
use Rattle.rt_store.specs.declared.trail.Why.{Why}
use Rattle.rt_store.specs.declared.trail.Why.TheVariants.{Line, Decided, Assumed}
use Rattle.rt_solver.specs.declared.order.Order.{Order}
use Rattle.rt_solver.specs.declared.order.Order.TheVariants.{Free, Fixed}
use Rattle.rt_store.specs.Trail.{lits, IsApart, IfDecided, decisions, decided_by}
use Rattle.rt_solver.specs.Propagating.{AreForced, IsPropagated}
use Rattle.rt_solver.specs.Seeking.{IsLed, IsFalseAtRoot}
use Rattle.rt_store.proofs.FreshLaws.{consistent}

-- of an optional literal
pub if-some : (P Q : Literal → Type 0) (o : Option Literal) → ((a : Literal) → P a → Q a) → IfSome o P → IfSome o Q
if-some P Q None f h = tt
if-some P Q (Some a) f h = f a h

pub all-some : (P : Literal → Type 0) (o : Option Literal) → ((a : Literal) → P a) → IfSome o P
all-some P None f = tt
all-some P (Some a) f = f a

-- the question stays the first decision as steps come that are none, or go
pub led-forced : (a : Literal) (lines : List (List Literal)) (old new : List Step) → IsPropagated lines old new → IsLed a old → IsLed a new
led-forced a lines old new p h = let P : List Step → Type 0 = IsLed a in subst P (sym p.steps) (more p.above p.forced) where
  more : (above : List Step) → AreForced lines above old → IsLed a (above ++ old)
  more [] g = h
  more (s ∷ above) g = (let x = g.0 in let Q : Why → Type 0 = λ w. IfDecided w ((s.lit ≡ a) ⊎ (has (lits (above ++ old)) a ≡ true)) in subst Q (sym x.why) tt, more above g.1)

led-part : (a : Literal) (above kept : List Step) → IsLed a (above ++ kept) → IsLed a kept
led-part a [] kept h = h
led-part a (s ∷ above) kept h = led-part a above kept h.1

pub led-learned : (a : Literal) (trail kept after above : List Step) (d l : Step) (n : ℕ) → trail ≡ above ++ d ∷ kept → after ≡ l ∷ kept → l.why ≡ Line n → IsLed a trail → IsLed a after
led-learned a trail kept after above d l n e q w h =
    let P : List Step → Type 0 = IsLed a in
    let k = (led-part a above (d ∷ kept) (subst P e h)).1 in
    let Q : Why → Type 0 = λ y. IfDecided y ((l.lit ≡ a) ⊎ (has (lits kept) a ≡ true)) in
    subst P (sym q) (subst Q (sym w) tt, k)

pub led-decided : (a : Literal) (before after : List Step) (s : Step) → after ≡ s ∷ before → s.why ≡ Decided → ((s.lit ≡ a) ⊎ (has (lits before) a ≡ true)) → IsLed a before → IsLed a after
led-decided a before after s e w d h =
    let P : List Step → Type 0 = IsLed a in
    let Q : Why → Type 0 = λ y. IfDecided y ((s.lit ≡ a) ⊎ (has (lits before) a ≡ true)) in
    subst P (sym e) (subst Q (sym w) d, h)

-- so for an optional question
pub led-more : (o : Option Literal) (before after : List Step) (s : Step) → after ≡ s ∷ before → s.why ≡ Decided → IfSome o (λ a. (s.lit ≡ a) ⊎ (has (lits before) a ≡ true)) → IfSome o (λ a. IsLed a before) → IfSome o (λ a. IsLed a after)
led-more None before after s e w d h = tt
led-more (Some a) before after s e w d h = led-decided a before after s e w d h

-- no decision yet
pub led-undecided : (a : Literal) (t : List Step) → decisions t ≡ [] → IsLed a t
led-undecided a [] e = tt
led-undecided a (s ∷ t) e = by s.why e (led-undecided a t) where
  by : (w : Why) → decided_by w s.lit (decisions t) ≡ [] → (decisions t ≡ [] → IsLed a t) → IfDecided w ((s.lit ≡ a) ⊎ (has (lits t) a ≡ true)) × IsLed a t
  by (Line r) q f = (tt, f q)
  by Decided q f = absurd (cc)
  by Assumed q f = (tt, f q)

-- where the question is not true, nothing is decided
led-none : (a : Literal) (t : List Step) → IsLed a t → has (lits t) a ≡ false → decisions t ≡ []
led-none a [] h n = refl
led-none a (s ∷ t) h n = by s.why h.0 (led-none a t h.1 older) where
  clash : {b : Bool} → b ≡ true → b ≡ false → ⊥
  clash p q = cc

  older : has (lits t) a ≡ false
  older = elim (bool-cases (has (lits t) a)) [ inl y ↦ absurd (clash (has-tail s.lit a (lits t) y) n) | inr z ↦ z ]

  by : (w : Why) → IfDecided w ((s.lit ≡ a) ⊎ (has (lits t) a ≡ true)) → decisions t ≡ [] → decided_by w s.lit (decisions t) ≡ []
  by (Line r) d e = e
  by Assumed d e = e
  by Decided d e = absurd (elim d [
    | inl q ↦ (let P : Literal → Type 0 = λ k. has (s.lit ∷ lits t) k ≡ true in clash (subst P q (has-head s.lit (lits t))) n)
    | inr y ↦ clash y older
  ])

pub denied-at : (m : ℕ) (o : Option Literal) (a : Literal) (t : List Step) → o ≡ Some a → IsApart m t → IfSome o (λ x. IsLed x t) → is_false (lits t) a ≡ true → IsFalseAtRoot t a
denied-at m o a t e p l h =
    let P : Literal → Type 0 = λ k. has (lits t) k ≡ false in
    let L : Option Literal → Type 0 = λ q. IfSome q (λ x. IsLed x t) in
    (h, led-none a t (subst L e l) (subst P (negated-twice a) (consistent m t p (negated a) h)))

-- the question is one of the variables that the heap offers
pub asked-bound : (order : Order) (o : Option Literal) (first bound : ℕ) → (order ≡ Free → bound ≡ first) → (order ≡ Fixed → o ≡ None) → IfSome o (λ a. a.var < first) → IfSome o (λ a. a.var < bound)
asked-bound Free None first bound f n h = tt
asked-bound Free (Some a) first bound f n h = (let e = f refl in omega (arith, e, h))
asked-bound Fixed o first bound f n h = (let P : Option Literal → Type 0 = λ q. IfSome q (λ a. a.var < bound) in subst P (sym (n refl)) tt)
