-- A round of the search: propagation after a decision, or after a learned clause.
use Rattle.std.proofs.Common.{◌≡◌, ℕ, ◌-◌, ◌<◌, ◌≤◌, Bool, true, List, [], ◌∷◌, ◌++◌, length, drop, sym, ap, subst, ◌∙◌, Option, Some, None, IfSome, arith}
use Rattle.std.proofs.lemmas.List.{append_cancel_left}
use Rattle.rt_clause.specs.Literal.{Literal}
use Rattle.rt_clause.specs.Lists.{line_at, IsMet}
use Rattle.rt_store.specs.declared.trail.Step.{Step}
use Rattle.rt_store.specs.Trail.{lits, value_in, IsApart, decisions, oldest}
use Rattle.rt_store.specs.Same.{AreSame, IsSpread}
use Rattle.rt_store.specs.declared.trail.Why.TheVariants.{Decided}
use Rattle.rt_solver.specs.Search.{line_of, KeepsModels, HasValues, GoesOn, HasLearned}
use Rattle.rt_solver.specs.Solving.{IsSpent}
use Rattle.rt_solver.proofs.Counting.{learned-none, learned-goes, learned-decided, learned-propagated}
use Rattle.rt_solver.proofs.Searching.{decision-low, decision-all, spent}
use Rattle.rt_store.specs.Table.{Tracked}
use Rattle.rt_solver.specs.Propagating.{IsQueued, IsQueuedNow, IsConflict, IsDone, IsPropagated, AreListed}
use Rattle.rt_store.specs.Watching.{Listed}
use Rattle.std.specs.Prelude.{MatchOption, IsSomeAnd}
use Rattle.rt_solver.proofs.Queues.{met-same, watched-met, broken-same}

-- the newest step is still to be propagated
pub queue-newest : (clauses : List (List Literal)) (t : List Step) (n : ℕ) → n ≡ length t - 1 → IsQueuedNow clauses t → IsQueued clauses (lits (oldest n t)) t
queue-newest clauses [] n e h = absurd h
queue-newest clauses (s ∷ t) n e h =
    let z : length (s ∷ t) - n ≡ 1 = omega (arith, e) in
    let P : List Literal → Type 0 = λ x. IsQueued clauses x (s ∷ t) in
    subst P (sym (ap (λ k. lits (drop k (s ∷ t))) z)) h

-- so too a decision
pub queue-decided : (clauses : List (List Literal)) (t after : List Step) (s : Step) (n : ℕ) → n ≡ length t → after ≡ s ∷ t → IsQueued clauses (lits t) after → IsQueued clauses (lits (oldest n after)) after
queue-decided clauses t after s n e a h =
    let z : length (s ∷ t) - n ≡ 1 = omega (arith, e) in
    let P : List Literal → Type 0 = λ x. IsQueued clauses x after in
    subst P (sym (ap (λ x. lits (oldest n x)) a ∙ ap (λ k. lits (drop k (s ∷ t))) z)) h

-- where all is propagated, each line is met
pub queue-met : (lines clauses : List (List Literal)) (t : List Step) → AreSame lines clauses → ((i : ℕ) → i < length clauses → IsSpread (line_at clauses i)) → IsQueued clauses (lits t) t → (i : ℕ) → i < length lines → IsMet (lits t) (line_at lines i)
queue-met lines clauses t s sp q i b =
    let c : i < length clauses = (let e = s.each in omega (arith, e, b)) in
    met-same (lits t) (line_at lines i) (line_at clauses i) (s.same i b) (watched-met (lits t) (line_at clauses i) (sp i c) (q.done i c))

-- the line that was learned is that of the clause
pub same-line : (old new : List (List Literal)) (a b : List Literal) → new ≡ old ++ a ∷ [] → new ≡ old ++ b ∷ [] → a ≡ b
same-line old new a b e f = let q = append_cancel_left old (a ∷ []) (b ∷ []) (sym e ∙ f) in cc

pub done-of : (lines : List (List Literal)) (t : List Step) (after : List (List Listed)) (new : List (List Literal)) (o : Option ℕ) → AreSame lines new → AreListed new after
    → MatchOption o (IsQueued new (lits t) t) (λ i. IsConflict new t i) → MatchOption o (IsDone lines new t) (λ i. IsConflict lines t i)
done-of lines t after new None s l h = (h, queue-met lines new t s l.spread h)
done-of lines t after new (Some i) s l h = let b : i < length lines = (let e = s.each in let x = h.0 in omega (arith, e, x)) in (b, broken-same (line_at lines i) (line_at new i) (lits t) (s.same i b) h.1)

-- what was learned, kept where there is a budget
pub record IsKept (old new : List (List Literal)) (fo fn : List Bool) (assume : Option Literal) (first : ℕ) (trail : Tracked) (budget : Option ℕ) (kept : List (List Literal)) : Type 0 where
  pub learned : HasLearned old new fo fn assume first trail
  pub kept_is : IfSome budget (λ b. kept ≡ learned.learned)

pub kept-none : (lines : List (List Literal)) (assume : Option Literal) (first : ℕ) (trail : Tracked) (fo : List Bool) (budget : Option ℕ) (kept : List (List Literal)) → decisions trail.steps ≡ [] → kept ≡ [] → IsKept lines lines fo fo assume first trail budget kept
kept-none lines assume first trail fo budget kept e k = record { learned = learned-none lines assume first trail fo e; kept_is = if budget } where
  if : (o : Option ℕ) → IfSome o (λ b. kept ≡ [])
  if None = tt
  if (Some b) = k

pub kept-goes : (old lines new : List (List Literal)) (fo fl fn : List Bool) (assume : Option Literal) (first : ℕ) (before after : Tracked) (budget : Option ℕ) (kept more : List (List Literal)) (line items : List Literal) → IsKept old lines fo fl assume first before budget kept → after.vars ≡ before.vars → first ≤ before.vars
    → fn ≡ fl ++ true ∷ [] → KeepsModels lines new → GoesOn lines new assume first before after × (new ≡ lines ++ items ∷ []) → line ≡ items → IfSome budget (λ b. (clause : List Literal) → line ≡ line_of assume clause → more ≡ kept ++ clause ∷ [])
    → IsKept old new fo fn assume first after budget more
kept-goes old lines new fo fl fn assume first before after budget kept more line items h v z w k g e q = record {
  learned = learned-goes old lines new fo fl fn assume first before after h.learned v z w k g.0;
  kept_is = if budget q h.kept_is;
} where
  if : (o : Option ℕ) → IfSome o (λ b. (clause : List Literal) → line ≡ line_of assume clause → more ≡ kept ++ clause ∷ []) → IfSome o (λ b. kept ≡ h.learned.learned) → IfSome o (λ b. more ≡ h.learned.learned ++ g.0.longer.clause ∷ [])
  if None a b = tt
  if (Some n) a b = a g.0.longer.clause (e ∙ same-line lines new items (line_of assume g.0.longer.clause) g.1 g.0.longer.lines) ∙ ap (λ ls. ls ++ g.0.longer.clause ∷ []) b

pub kept-decided : (old lines : List (List Literal)) (fo fn : List Bool) (assume : Option Literal) (first : ℕ) (before after : Tracked) (s : Step) (budget : Option ℕ) (kept : List (List Literal)) → IsKept old lines fo fn assume first before budget kept → s.why ≡ Decided → IsApart before.vars before.steps → IsApart after.vars after.steps
    → ((i : ℕ) → i < length lines → IsMet (lits before.steps) (line_at lines i)) → s.lit.var < before.vars → value_in before.steps s.lit.var ≡ None → (first ≤ s.lit.var → HasValues first before.steps) → after.steps ≡ s ∷ before.steps → after.vars ≡ before.vars
    → IsKept old lines fo fn assume first after budget kept
kept-decided old lines fo fn assume first before after s budget kept h w a b met low none late e v =
    let A : List Step → Type 0 = IsApart before.vars in
    let N : ℕ → Type 0 = λ n. IsApart n after.steps in
    record {
      learned = learned-decided old lines fo fn assume first before after s h.learned e v (decision-all before.vars before.steps s (subst A e (subst N v b)))
          (decision-low old lines fo fn assume first before s w a h.learned met low none late);
      kept_is = h.kept_is;
    }

pub kept-propagated : (old lines : List (List Literal)) (fo fn : List Bool) (assume : Option Literal) (first : ℕ) (before after : Tracked) (budget : Option ℕ) (kept : List (List Literal)) → IsKept old lines fo fn assume first before budget kept → IsPropagated lines before.steps after.steps → after.vars ≡ before.vars
    → IsKept old lines fo fn assume first after budget kept
kept-propagated old lines fo fn assume first before after budget kept h p v = record { learned = learned-propagated old lines fo fn assume first before after h.learned p v; kept_is = h.kept_is }

pub kept-lines : (old lines new : List (List Literal)) (fo fl fn : List Bool) (assume : Option Literal) (first : ℕ) (trail : Tracked) (budget : Option ℕ) (kept : List (List Literal)) → new ≡ lines → fn ≡ fl → IsKept old lines fo fl assume first trail budget kept → IsKept old new fo fn assume first trail budget kept
kept-lines old lines new fo fl fn assume first trail budget kept e f h =
    let P : List (List Literal) → Type 0 = λ x. IsKept old x fo fn assume first trail budget kept in
    let Q : List Bool → Type 0 = λ x. IsKept old lines fo x assume first trail budget kept in
    subst P (sym e) (subst Q (sym f) h)

-- the budget is spent: what was kept is what was learned
pub kept-spent : (old new : List (List Literal)) (fo fn : List Bool) (assume : Option Literal) (first : ℕ) (trail : Tracked) (budget : Option ℕ) (kept : List (List Literal)) (b : ℕ) → IsApart trail.vars trail.steps → IsKept old new fo fn assume first trail budget kept → b ≡ length new - length old → budget ≡ Some b
    → IsSomeAnd budget (λ n. IsSpent old new assume first trail.vars n kept)
kept-spent old new fo fn assume first trail budget kept b a h e q =
    let P : Option ℕ → Type 0 = λ o. IfSome o (λ n. kept ≡ h.learned.learned) in
    let Q : Option ℕ → Type 0 = λ o. IsSomeAnd o (λ n. IsSpent old new assume first trail.vars n kept) in
    subst Q (sym q) (spent old new fo fn assume first trail b kept a h.learned e (subst P q h.kept_is))
