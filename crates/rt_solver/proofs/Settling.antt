-- The clauses of one literal, before any decision.
use Rattle.std.proofs.Common.{◌≡◌, ℕ, ◌<◌, ◌+◌, ◌≤◌, true, nat_lt, List, [], ◌∷◌, ◌++◌, length, refl, sym, ap, subst, ◌∙◌, inl, inr, arith, rules, get_or}
use Rattle.std.proofs.lemmas.List.{get_or_default}
use Rattle.rt_clause.specs.Literal.{Literal}
use Rattle.rt_clause.specs.Lists.{has, line_at}
use Rattle.rt_clause.proofs.Bools.{bool-cases}
use Rattle.rt_clause.proofs.Literals.{has-tail}
use Rattle.rt_store.specs.declared.trail.Step.{Step}
use Rattle.rt_store.specs.declared.trail.Why.TheVariants.{Line}
use Rattle.rt_store.specs.Trail.{lits, IsUnit, decisions, decided_by}
use Rattle.rt_solver.specs.Propagating.{IsWatched, IsPart, IsQueued, AreForced, IsPropagated, IsTakenStep, AreShort}
use Rattle.rt_solver.proofs.Queues.{watched-more, propagated-step, before-none}

pub settled-grown : (lines : List (List Literal)) (c : List Literal) (t0 t t' : List Step) (i : ℕ) → i < length lines → c ≡ line_at lines i → IsPropagated lines t0 t → IsTakenStep c i t t' → IsPropagated lines t0 t'
settled-grown lines c t0 t t' i b e h s = elim s [
  | inl q ↦ (let P : List Step → Type 0 = IsPropagated lines t0 in subst P (sym q) h)
  | inr q ↦ (let U : List Literal → Type 0 = λ d. IsUnit d (lits t) q.0 in
      propagated-step lines t0 t t' (record { lit = q.0; why = Line i }) h (record { line = i; why = refl; within = b; unit = subst U e q.2 }) q.1)
]

pub settled-part : (c : List Literal) (t t' : List Step) (i : ℕ) → IsTakenStep c i t t' → IsPart (lits t) (lits t')
settled-part c t t' i s = elim s [
  | inl q ↦ (λ l g. ap (λ x. has (lits x) l) q ∙ g)
  | inr q ↦ (λ l g. ap (λ x. has (lits x) l) q.1 ∙ has-tail q.0 l (lits t) g)
]

-- so far the short clauses are true
abbrev pub AreSettled : List (List Literal) → List ℕ → ℕ → List Step → Type 0
AreSettled clauses short j t = (k : ℕ) → k < j → IsWatched [] (lits t) (line_at clauses (get_or short k 0))

pub settled-more : (lines : List (List Literal)) (short : List ℕ) (c : List Literal) (t t' : List Step) (j : ℕ) → c ≡ line_at lines (get_or short j 0) → IsTakenStep c (get_or short j 0) t t' → IsWatched [] (lits t') c
    → AreSettled lines short j t → AreSettled lines short (j + 1) t'
settled-more lines short c t t' j e s w h k b = elim (bool-cases (nat_lt k j)) [
  | inl y ↦ watched-more [] (lits t) (lits t') (line_at lines (get_or short k 0)) (settled-part c t t' (get_or short j 0) s) (h k (search rules))
  | inr n ↦ (let q : k ≡ j = (let g : j ≤ k = search rules in omega (arith, g, b)) in
      let P : List Literal → Type 0 = λ d. IsWatched [] (lits t') d in
      subst P (e ∙ ap (λ m. line_at lines (get_or short m 0)) (sym q)) w)
]

-- once all short ones are settled, so is each clause
pub settled-all : (clauses : List (List Literal)) (short : List ℕ) (t : List Step) (j : ℕ) → AreShort clauses short → length short ≤ j → AreSettled clauses short j t → (i : ℕ) → i < length clauses → IsWatched [] (lits t) (line_at clauses i)
settled-all clauses short t j h e w i b = elim (bool-cases (nat_lt (length (line_at clauses i)) 2)) [
  | inl y ↦ (let s = h.all i b (search rules) in
      let P : ℕ → Type 0 = λ n. IsWatched [] (lits t) (line_at clauses n) in
      subst P (get_or_default short s.0 0 i s.1 ∙ s.2) (w s.0 (let l = s.1 in omega (arith, l, e))))
  | inr n ↦ long (line_at clauses i) (search rules)
] where
  long : (c : List Literal) → 2 ≤ length c → IsWatched [] (lits t) c
  long [] q = absurd (omega (arith, q))
  long (a ∷ []) q = absurd (omega (arith, q))
  long (a ∷ b ∷ c) q = inr (refl, refl)

-- then nothing is propagated yet
pub begun-queue : (clauses : List (List Literal)) (t : List Step) → decisions t ≡ [] → ((i : ℕ) → i < length clauses → IsWatched [] (lits t) (line_at clauses i)) → IsQueued clauses [] t
begun-queue clauses t d h = record {
  before = λ i b. before-none (λ set. IsWatched set set (line_at clauses i)) t d;
  done = h;
  within = before-none (λ set. IsPart set []) t d;
}

pub settled-below : (m m' : ℕ) (lines : List (List Literal)) (i : ℕ) (c : List Literal) → i < length lines → c ≡ line_at lines i → m' ≡ m → ((k : ℕ) → k < length lines → (l : Literal) → has (line_at lines k) l ≡ true → l.var < m) → (l : Literal) → has c l ≡ true → l.var < m'
settled-below m m' lines i c b e q h l g = let x = h i b l (ap (λ d. has d l) (sym e) ∙ g) in omega (arith, x, q)

-- propagation decides nothing
forced-decisions : (lines : List (List Literal)) (above t : List Step) → AreForced lines above t → decisions (above ++ t) ≡ decisions t
forced-decisions lines [] t h = refl
forced-decisions lines (s ∷ above) t h = ap (λ w. decided_by w s.lit (decisions (above ++ t))) (h.0).why ∙ forced-decisions lines above t h.1

pub decisions-grown : (lines : List (List Literal)) (t0 t : List Step) → IsPropagated lines t0 t → decisions t ≡ decisions t0
decisions-grown lines t0 t h = ap decisions h.steps ∙ forced-decisions lines h.above t0 h.forced

pub undecided-grown : (lines : List (List Literal)) (t0 t : List Step) → IsPropagated lines t0 t → decisions t0 ≡ [] → decisions t ≡ []
undecided-grown lines t0 t h e = decisions-grown lines t0 t h ∙ e
