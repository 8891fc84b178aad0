-- The table of literals as steps come and go.
use Rattle.std.proofs.Common.{◌≡◌, ℕ, suc, ◌+◌, ◌-◌, ◌*◌, ◌<◌, Bool, true, false, not, nat_eq, List, [], ◌∷◌, length, reverse, drop, refl, sym, ap, subst, ◌∙◌, inl, inr, Option, Some, None, arith, rules, get_or, drop-cons}
use Rattle.std.proofs.lemmas.List.{length-reverse, get_or_default, get_or-reverse}
use Rattle.rt_store.proofs.Number.{length-fits}
use Rattle.rt_store.proofs.FreshLaws.{consistent, absent-lit}
use Rattle.rt_store.proofs.Looks.{open-not-false}
use Rattle.rt_clause.specs.Literal.{Literal, negated}
use Rattle.rt_clause.specs.Lists.{has, is_false}
use Rattle.rt_clause.proofs.Bools.{bool-cases}
use Rattle.rt_clause.proofs.Literals.{has-head, has-tail}
use Rattle.rt_store.specs.declared.status.Status.{Status}
use Rattle.rt_store.specs.declared.status.Status.TheVariants.{True, False, Unassigned}
use Rattle.rt_store.specs.declared.trail.Step.{Step}
use Rattle.rt_store.specs.declared.trail.Why.TheVariants.{Assumed}
use Rattle.rt_store.specs.Trail.{lits, value_in, IsApart, oldest}
use Rattle.rt_store.specs.Table.{Tracked, IsTable, IsStatus, status_at}

-- the value that a status tells
pub status-true : (value : Option Bool) (on : Bool) → True ≡ status_at value on → value ≡ Some on
status-true None on h = absurd (cc)
status-true (Some true) true h = refl
status-true (Some true) false h = absurd (cc)
status-true (Some false) true h = absurd (cc)
status-true (Some false) false h = refl

pub status-false : (value : Option Bool) (on : Bool) → False ≡ status_at value on → value ≡ Some (not on)
status-false None on h = absurd (cc)
status-false (Some true) true h = absurd (cc)
status-false (Some true) false h = refl
status-false (Some false) true h = refl
status-false (Some false) false h = absurd (cc)

pub status-unassigned : (value : Option Bool) (on : Bool) → Unassigned ≡ status_at value on → value ≡ None
status-unassigned None on h = refl
status-unassigned (Some true) true h = absurd (cc)
status-unassigned (Some true) false h = absurd (cc)
status-unassigned (Some false) true h = absurd (cc)
status-unassigned (Some false) false h = absurd (cc)

-- what the table says of the literal of a variable that is true at true
pub read : (outside : Tracked) (statuses : List Status) (vars : ℕ) (steps : List Step) (room v : ℕ) (x : Status) → record { steps = steps; vars = vars } ≡ outside → IsTable statuses vars steps room
    → v < outside.vars → x ≡ get_or statuses (2 * v + 1) x → x ≡ status_at (value_in outside.steps v) true
read outside statuses vars steps room v x e h b r =
    let P : Tracked → Type 0 = λ t. v < t.vars → x ≡ status_at (value_in t.steps v) true in
    subst P e (λ low. let n = h.literals in
    r ∙ get_or_default statuses (2 * v + 1) x Unassigned (omega (arith, low, n)) ∙ h.status (record { var = v; on = true }) low) b

pub value-has : (t : List Step) (v : ℕ) (on : Bool) → value_in t v ≡ Some on → has (lits t) (record { var = v; on = on }) ≡ true
value-has [] v on h = absurd (cc)
value-has (s ∷ t) v on h = elim (bool-cases (nat_eq s.lit.var v)) [
  | inl y ↦ (let g = rw y at h in let a : s.lit.on ≡ on = cc in let b : s.lit.var ≡ v = search rules in
      let q : s.lit ≡ record { var = v; on = on } = (λ i. record { var = b i; on = a i }) in
      let P : Literal → Type 0 = λ k. has (s.lit ∷ lits t) k ≡ true in subst P q (has-head s.lit (lits t)))
  | inr n ↦ has-tail s.lit (record { var = v; on = on }) (lits t) (value-has t v on (rw n at h))
]

-- a literal is in the set where its status is true, and its negation where it is false
pub true-has : (t : List Step) (l : Literal) → True ≡ status_at (value_in t l.var) l.on → has (lits t) l ≡ true
true-has t l h = value-has t l.var l.on (status-true (value_in t l.var) l.on h)

pub false-has : (t : List Step) (l : Literal) → False ≡ status_at (value_in t l.var) l.on → has (lits t) (negated l) ≡ true
false-has t l h = value-has t l.var (not l.on) (status-false (value_in t l.var) l.on h)

-- fewer steps than variables, where one has no value
pub room-left : (m : ℕ) (t : List Step) (v : ℕ) → IsApart m t → v < m → value_in t v ≡ None → length t < m
room-left m t v a b n = let l = length-fits m (record { lit = record { var = v; on = true }; why = Assumed } ∷ t) (b, n, a) in omega (arith, l)

pub step-fits : (statuses : List Status) (vars : ℕ) (steps : List Step) (room v : ℕ) → IsTable statuses vars (reverse steps) room → v < vars → value_in (reverse steps) v ≡ None → length steps < room
step-fits statuses vars steps room v h b n =
    let l = room-left vars (reverse steps) v h.apart b n in
    let r = length-reverse steps in
    let x = h.steps_fit in
    omega (arith, l, r, x)

pub step-fits-at : (outside : Tracked) (statuses : List Status) (vars : ℕ) (steps : List Step) (room v : ℕ) → record { steps = reverse steps; vars = vars } ≡ outside → IsTable statuses vars (reverse steps) room
    → v < outside.vars → value_in outside.steps v ≡ None → length steps < room
step-fits-at outside statuses vars steps room v e h =
    let P : Tracked → Type 0 = λ t. v < t.vars → value_in t.steps v ≡ None → length steps < room in
    subst P e (step-fits statuses vars steps room v h)

-- whether a literal is false, from its status
pub false-none : (t : List Step) (l : Literal) → value_in t l.var ≡ None → false ≡ is_false (lits t) l
false-none t l v = sym (open-not-false t l v)

pub false-some : (m : ℕ) (t : List Step) (l : Literal) (b : Bool) → IsApart m t → IsStatus (lits t) (value_in t l.var) l (Some b) → not b ≡ is_false (lits t) l
false-some m t l true a s = sym (consistent m t a l s)
false-some m t l false a s = sym s

-- whether it is true
pub true-none : (t : List Step) (l : Literal) → value_in t l.var ≡ None → false ≡ has (lits t) l
true-none t l v = sym (absent-lit t l v)

pub true-some : (m : ℕ) (t : List Step) (l : Literal) (b : Bool) → IsApart m t → IsStatus (lits t) (value_in t l.var) l (Some b) → b ≡ has (lits t) l
true-some m t l true a s = sym s
true-some m t l false a s = elim (bool-cases (has (lits t) l)) [ inl y ↦ absurd (let x = consistent m t a l y in cc) | inr n ↦ sym n ]

-- the step at a place
pub oldest-at : (xs : List Step) (i : ℕ) (s : Step) → i < length xs → s ≡ get_or xs i s → oldest (i + 1) (reverse xs) ≡ s ∷ oldest i (reverse xs)
oldest-at xs i s h e =
    let l : length (reverse xs) ≡ length xs = length-reverse xs in
    let j = length (reverse xs) - (i + 1) in
    let b : j < length (reverse xs) = omega (arith, l, h) in
    let k : suc j ≡ length (reverse xs) - i = omega (arith, l, h) in
    let m : length xs - 1 - j ≡ i = omega (arith, l, h) in
    let g : get_or (reverse xs) j s ≡ s = get_or-reverse xs j s (omega (arith, l, b)) ∙ ap (λ n. get_or xs n s) m ∙ sym e in
    drop-cons (reverse xs) j s b ∙ (λ i'. g i' ∷ drop (k i') (reverse xs))
