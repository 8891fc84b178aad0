-- What is watched, as the trail and the clause change.
use Rattle.std.proofs.Common.{◌≡◌, ℕ, zero, suc, ◌-◌, ◌<◌, ◌≤◌, cond, nat_eq, ◌≢◌, true, false, List, [], ◌∷◌, ◌++◌, length, drop, refl, sym, ap, subst, ◌∙◌, inl, inr, Some, arith, length-append}
use Rattle.rt_clause.specs.Literal.{Literal, negated}
use Rattle.rt_clause.specs.Lists.{has, is_false, line_at, IsMet}
use Rattle.rt_clause.proofs.Bools.{bool-cases}
use Rattle.rt_clause.proofs.Literals.{has-head, has-tail}
use Rattle.rt_store.specs.declared.trail.Step.{Step}
use Rattle.rt_store.specs.declared.trail.Why.{Why}
use Rattle.rt_store.specs.declared.trail.Why.TheVariants.{Line, Decided, Assumed}
use Rattle.rt_store.specs.Trail.{lits, IsUnit, BeforeDecisions, IfDecided, oldest, decisions, decided_by}
use Rattle.rt_solver.specs.Looking.{IsBroken, HasTrue}
use Rattle.rt_store.specs.Same.{IsSame, AreSame, IsSpread}
use Rattle.rt_store.specs.Watching.{literal_in}
use Rattle.rt_solver.specs.Turning.{IsMoved}
use Rattle.rt_solver.specs.Propagating.{AreLeft, IsWatched, IsPart, IsForced, AreForced, IsPropagated}

-- what holds before each decision
if-map : (P Q : List Literal → Type 0) (w : Why) (set : List Literal) → (P set → Q set) → IfDecided w (P set) → IfDecided w (Q set)
if-map P Q (Line r) set f h = tt
if-map P Q Decided set f h = f h
if-map P Q Assumed set f h = tt

pub before-map : (P Q : List Literal → Type 0) (t : List Step) → ((set : List Literal) → P set → Q set) → BeforeDecisions P t → BeforeDecisions Q t
before-map P Q [] f h = tt
before-map P Q (s ∷ t) f h = (if-map P Q s.why (lits t) (f (lits t)) h.0, before-map P Q t f h.1)

if-both : (P Q : List Literal → Type 0) (w : Why) (set : List Literal) → IfDecided w (P set) → IfDecided w (Q set) → IfDecided w (P set × Q set)
if-both P Q (Line r) set h g = tt
if-both P Q Decided set h g = (h, g)
if-both P Q Assumed set h g = tt

pub before-both : (P Q : List Literal → Type 0) (t : List Step) → BeforeDecisions P t → BeforeDecisions Q t → BeforeDecisions (λ set. P set × Q set) t
before-both P Q [] h g = tt
before-both P Q (s ∷ t) h g = (if-both P Q s.why (lits t) h.0 g.0, before-both P Q t h.1 g.1)

if-any : (P : List Literal → Type 0) (w : Why) (set : List Literal) → P set → IfDecided w (P set)
if-any P (Line r) set h = tt
if-any P Decided set h = h
if-any P Assumed set h = tt

pub before-within : (set : List Literal) (t : List Step) → IsPart (lits t) set → BeforeDecisions (λ part. IsPart part set) t
before-within set [] h = tt
before-within set (s ∷ t) h =
    let g : IsPart (lits t) set = (λ l b. h l (has-tail s.lit l (lits t) b)) in
    (if-any (λ part. IsPart part set) s.why (lits t) g, before-within set t g)

pub before-line : (P : List Literal → Type 0) (s : Step) (t : List Step) (n : ℕ) → s.why ≡ Line n → BeforeDecisions P t → BeforeDecisions P (s ∷ t)
before-line P s t n e h = (let Q : Why → Type 0 = λ w. IfDecided w (P (lits t)) in subst Q (sym e) tt, h)

pub before-decided : (P : List Literal → Type 0) (s : Step) (t : List Step) → P (lits t) → BeforeDecisions P t → BeforeDecisions P (s ∷ t)
before-decided P s t p h = (if-any P s.why (lits t) p, h)

pub before-suffix : (P : List Literal → Type 0) (above t : List Step) → BeforeDecisions P (above ++ t) → BeforeDecisions P t
before-suffix P [] t h = h
before-suffix P (s ∷ above) t h = before-suffix P above t h.1

pub before-cut : (P : List Literal → Type 0) (above t : List Step) (s : Step) → s.why ≡ Decided → BeforeDecisions P (above ++ s ∷ t) → P (lits t)
before-cut P above t s e h = let Q : Why → Type 0 = λ w. IfDecided w (P (lits t)) in subst Q e (before-suffix P above (s ∷ t) h).0

pub before-none : (P : List Literal → Type 0) (t : List Step) → decisions t ≡ [] → BeforeDecisions P t
before-none P [] e = tt
before-none P (s ∷ t) e = by s.why e (before-none P t) where
  by : (w : Why) → decided_by w s.lit (decisions t) ≡ [] → (decisions t ≡ [] → BeforeDecisions P t) → IfDecided w (P (lits t)) × BeforeDecisions P t
  by (Line r) q f = (tt, f q)
  by Assumed q f = (tt, f q)
  by Decided q f = absurd (cc)

pub part-suffix : (above t : List Step) → IsPart (lits t) (lits (above ++ t))
part-suffix [] t l g = g
part-suffix (s ∷ above) t l g = has-tail s.lit l (lits (above ++ t)) (part-suffix above t l g)

pub part-drop : (n : ℕ) (t : List Step) → IsPart (lits (drop n t)) (lits t)
part-drop zero t l g = g
part-drop (suc n) [] l g = g
part-drop (suc n) (s ∷ t) l g = has-tail s.lit l (lits t) (part-drop n t l g)

-- a watched clause
pub true-same : (set a b : List Literal) → IsSame a b → HasTrue set a → HasTrue set b
true-same set a b s h = (h.0, s.to h.0 h.1, h.2)

pub true-more : (set more c : List Literal) → IsPart set more → HasTrue set c → HasTrue more c
true-more set more c h x = (x.0, x.1, h x.0 x.2)

pub watched-more : (early set more c : List Literal) → IsPart set more → IsWatched early set c → IsWatched early more c
watched-more early set more c h w = elim w [ inl x ↦ inl (true-more set more c h x) | inr y ↦ inr y ]

-- the two literals that are left
pub left-at : (early c : List Literal) (p : ℕ) (l : Literal) → p < 2 → literal_in c p ≡ Some l → AreLeft early c → is_false early l ≡ false
left-at early [] p l b e h = absurd h
left-at early (a ∷ []) p l b e h = absurd h
left-at early (a ∷ d ∷ c) zero l b e h = let x : a ≡ l = cc in let P : Literal → Type 0 = λ k. is_false early k ≡ false in subst P x h.0
left-at early (a ∷ d ∷ c) (suc zero) l b e h = let x : d ≡ l = cc in let P : Literal → Type 0 = λ k. is_false early k ≡ false in subst P x h.1
left-at early (a ∷ d ∷ c) (suc (suc p)) l b e h = absurd (omega arith)

pub left-by : (early c : List Literal) (p : ℕ) (k l : Literal) → p < 2 → literal_in c p ≡ Some k → literal_in c (1 - p) ≡ Some l → is_false early k ≡ false → is_false early l ≡ false → AreLeft early c
left-by early [] p k l b e f g h = absurd (cc)
left-by early (a ∷ []) p k l b e f g h = absurd (cc)
left-by early (a ∷ d ∷ c) zero k l b e f g h =
    let x : k ≡ a = cc in let y : l ≡ d = cc in let P : Literal → Type 0 = λ k. is_false early k ≡ false in (subst P x g, subst P y h)
left-by early (a ∷ d ∷ c) (suc zero) k l b e f g h =
    let x : k ≡ d = cc in let y : l ≡ a = cc in let P : Literal → Type 0 = λ k. is_false early k ≡ false in (subst P y h, subst P x g)
left-by early (a ∷ d ∷ c) (suc (suc p)) k l b e f g h = absurd (omega arith)

left-other : (early c : List Literal) (p : ℕ) → AreLeft early c → (o : Literal) × (literal_in c (1 - p) ≡ Some o)
left-other early [] p h = absurd h
left-other early (a ∷ []) p h = absurd h
left-other early (a ∷ d ∷ c) p h = (cond (nat_eq (1 - p) 0) a d, refl)

-- another literal, which is not false, is watched
pub watched-moved : (t : List Step) (early set c new : List Literal) (p : ℕ) (l : Literal) → p < 2 → IsMoved c new p l → is_false (lits t) l ≡ false → IsPart early (lits t) → IsWatched early set c → IsWatched early set new
watched-moved t early set c new p l b mv f pe w = elim w [
  | inl x ↦ inl (true-same set c new mv.same x)
  | inr y ↦ (let o = left-other early c p y in
      inr (left-by early new p l o.0 b mv.at (mv.other ∙ o.1) usable (left-at early c (1 - p) o.0 (omega arith) o.1 y)))
] where
  usable : is_false early l ≡ false
  usable = elim (bool-cases (is_false early l)) [ inl g ↦ absurd (let x = pe (negated l) g in cc) | inr g ↦ g ]

-- a watched clause is met
pub watched-met : (set c : List Literal) → IsSpread c → IsWatched set set c → IsMet set c
watched-met set c s w = elim w [ inl x ↦ inl x | inr y ↦ inr (two c s y) ] where
  two : (d : List Literal) → IsSpread d → AreLeft set d → (k : Literal) × (l : Literal) × (has d k ≡ true) × (has d l ≡ true) × (k ≢ l) × (is_false set k ≡ false) × (is_false set l ≡ false)
  two [] q y = absurd y
  two (a ∷ []) q y = absurd y
  two (a ∷ b ∷ d) q y = (a, b, has-head a (b ∷ d), has-tail a b (b ∷ d) (has-head b d), q, y.0, y.1)

-- what depends on the members of a clause alone
pub met-same : (set a b : List Literal) → IsSame a b → IsMet set b → IsMet set a
met-same set a b s h = elim h [
  | inl x ↦ inl (x.0, s.from x.0 x.1, x.2)
  | inr y ↦ inr (y.0, y.1, s.from y.0 y.2, s.from y.1 y.3, y.4, y.5, y.6)
]

pub unit-same : (a b set : List Literal) (l : Literal) → IsSame a b → IsUnit b set l → IsUnit a set l
unit-same a b set l s u = record { among = s.from l u.among; others = λ k h. u.others k (s.to k h) }

pub broken-same : (a b set : List Literal) → IsSame a b → IsBroken set b → IsBroken set a
broken-same a b set s h k g = h k (s.to k g)

pub same-refl : (a : List Literal) → IsSame a a
same-refl a = record { to = λ l h. h; from = λ l h. h }

pub same-trans : (a b c : List Literal) → IsSame a b → IsSame b c → IsSame a c
same-trans a b c s u = record { to = λ l h. u.to l (s.to l h); from = λ l h. s.from l (u.from l h) }

pub all-refl : (a : List (List Literal)) → AreSame a a
all-refl a = record { each = refl; same = λ i b. same-refl (line_at a i) }

pub all-trans : (a b c : List (List Literal)) → AreSame a b → AreSame b c → AreSame a c
all-trans a b c s u = record {
  each = s.each ∙ u.each;
  same = λ i h. same-trans (line_at a i) (line_at b i) (line_at c i) (s.same i h) (u.same i (let e = s.each in omega (arith, e, h)));
}

pub forced-same : (a b : List (List Literal)) (above t : List Step) → AreSame a b → AreForced b above t → AreForced a above t
forced-same a b [] t s h = tt
forced-same a b (x ∷ above) t s h =
    let f = h.0 in
    let n : f.line < length a = (let w = f.within in let e = s.each in omega (arith, w, e)) in
    (record { line = f.line; why = f.why; within = n; unit = unit-same (line_at a f.line) (line_at b f.line) (lits (above ++ t)) x.lit (s.same f.line n) f.unit }, forced-same a b above t s h.1)

pub propagated-same : (a b : List (List Literal)) (old new : List Step) → AreSame a b → IsPropagated b old new → IsPropagated a old new
propagated-same a b old new s h = record { above = h.above; steps = h.steps; forced = forced-same a b h.above old s h.forced }

pub propagated-none : (lines : List (List Literal)) (t : List Step) → IsPropagated lines t t
propagated-none lines t = record { above = []; steps = refl; forced = tt }

-- one forced step more
pub propagated-step : (lines : List (List Literal)) (t0 t t' : List Step) (s : Step) → IsPropagated lines t0 t → IsForced lines (lits t) s → t' ≡ s ∷ t → IsPropagated lines t0 t'
propagated-step lines t0 t t' s h f e = record {
  above = s ∷ h.above;
  steps = e ∙ ap (λ (x : List Step). s ∷ x) h.steps;
  forced = (let P : List Step → Type 0 = λ x. IsForced lines (lits x) s in subst P h.steps f, h.forced);
}

forced-append : (lines : List (List Literal)) (xs ys t : List Step) → AreForced lines ys t → AreForced lines xs (ys ++ t) → AreForced lines (xs ++ ys) t
forced-append lines [] ys t a b = a
forced-append lines (x ∷ xs) ys t a b =
    let P : List Step → Type 0 = λ z. IsForced lines (lits z) x in
    (subst P (sym (assoc xs ys t)) b.0, forced-append lines xs ys t a b.1) where
      assoc : (a b c : List Step) → (a ++ b) ++ c ≡ a ++ (b ++ c)
      assoc [] b c = refl
      assoc (x ∷ a) b c = ap (λ (z : List Step). x ∷ z) (assoc a b c)

pub propagated-trans : (lines : List (List Literal)) (t0 t1 t2 : List Step) → IsPropagated lines t0 t1 → IsPropagated lines t1 t2 → IsPropagated lines t0 t2
propagated-trans lines t0 t1 t2 a b = record {
  above = b.above ++ a.above;
  steps = b.steps ∙ ap (λ (x : List Step). b.above ++ x) a.steps ∙ sym (assoc b.above a.above t0);
  forced = forced-append lines b.above a.above t0 a.forced (let P : List Step → Type 0 = λ x. AreForced lines b.above x in subst P a.steps b.forced);
} where
  assoc : (a b c : List Step) → (a ++ b) ++ c ≡ a ++ (b ++ c)
  assoc [] b c = refl
  assoc (x ∷ a) b c = ap (λ (z : List Step). x ∷ z) (assoc a b c)

-- the oldest steps of a longer trail
pub oldest-above : (n : ℕ) (above t : List Step) → n ≤ length t → oldest n (above ++ t) ≡ oldest n t
oldest-above n [] t b = refl
oldest-above n (s ∷ above) t b =
    let l = length-append above t in
    let e : length (s ∷ (above ++ t)) - n ≡ suc (length (above ++ t) - n) = omega (arith, l, b) in
    ap (λ k. drop k (s ∷ (above ++ t))) e ∙ oldest-above n above t b

pub oldest-grown : (lines : List (List Literal)) (n : ℕ) (t0 t : List Step) → n ≤ length t0 → IsPropagated lines t0 t → oldest n t ≡ oldest n t0
oldest-grown lines n t0 t b h = ap (oldest n) h.steps ∙ oldest-above n h.above t0 b

pub length-grown : (lines : List (List Literal)) (t0 t : List Step) → IsPropagated lines t0 t → length t0 ≤ length t
length-grown lines t0 t h = let e = ap length h.steps in let l = length-append h.above t0 in omega (arith, e, l)
