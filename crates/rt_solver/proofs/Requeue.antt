-- The learned clause is watched, and what was propagated stays so after the step back.
use Rattle.std.proofs.Common.{◌≡◌, ◌≢◌, ℕ, true, false, List, [], ◌∷◌, ◌++◌, map, reverse, sym, ap, subst, ◌∙◌, inl, inr, Option, Some, None}
use Rattle.std.specs.Option.{option_to_list}
use Rattle.rt_clause.specs.Literal.{Literal, negated}
use Rattle.rt_clause.specs.Lists.{has, line_at}
use Rattle.rt_clause.proofs.Literals.{has-head, has-tail, has-append_left, has-append_right, has-append_cases, negated-twice, negated-same}
use Rattle.rt_store.specs.declared.trail.Step.{Step}
use Rattle.rt_store.specs.declared.trail.Why.{Why}
use Rattle.rt_store.specs.declared.trail.Why.TheVariants.{Line}
use Rattle.rt_store.specs.Trail.{lits, IsApart, RestsOn, IsFounded, BeforeDecisions}
use Rattle.rt_solver.specs.Analysis.{causes, clause_of, AreChosen, Lacks, IsPlaced, ArePlaced}
use Rattle.rt_store.specs.Same.{IsSame, IsSpread}
use Rattle.rt_solver.specs.Propagating.{IsWatched, IsPart, AreWatchedBefore, IsQueued, IsQueuedNow}
use Rattle.rt_store.proofs.FreshLaws.{absent-lit, founded-above, nowhere-before}
use Rattle.rt_solver.proofs.Returning.{reverse-has, has-reverse, map-has, has-map, chosen-distinct}
use Rattle.rt_solver.proofs.Putting.{lines-of}
use Rattle.rt_solver.proofs.Queues.{before-map, before-both, before-within, before-line, before-decided, before-suffix, before-cut, watched-more}

-- the copy, in the order of the decisions
abbrev pub copy_of : List Literal → Option Literal → List Literal
copy_of found assume = map negated (found ++ option_to_list assume)

pub learned-same : (found : List Literal) (assume : Option Literal) (line copy : List Literal) → line ≡ clause_of found assume → copy ≡ copy_of found assume → IsSame line copy
learned-same found assume line copy e f =
    let P : List Literal → Type 0 = λ x. IsSame x copy in
    let Q : List Literal → Type 0 = λ y. IsSame (clause_of found assume) y in
    subst P (sym e) (subst Q (sym f) (record {
      to = λ l h. back l (found ++ option_to_list assume) (to-right (negated l) (has-map (causes found assume) l h));
      from = λ l h. back l (causes found assume) (to-left (negated l) (has-map (found ++ option_to_list assume) l h));
    })) where
      back : (l : Literal) (xs : List Literal) → has xs (negated l) ≡ true → has (map negated xs) l ≡ true
      back l xs h = let R : Literal → Type 0 = λ k. has (map negated xs) k ≡ true in subst R (negated-twice l) (map-has xs (negated l) h)

      to-right : (l : Literal) → has (causes found assume) l ≡ true → has (found ++ option_to_list assume) l ≡ true
      to-right l h = elim (has-append_cases (reverse found) (option_to_list assume) l h) [
        | inl a ↦ has-append_left found (option_to_list assume) l (reverse-has found l a)
        | inr b ↦ has-append_right found (option_to_list assume) l b
      ]

      to-left : (l : Literal) → has (found ++ option_to_list assume) l ≡ true → has (causes found assume) l ≡ true
      to-left l h = elim (has-append_cases found (option_to_list assume) l h) [
        | inl a ↦ has-append_left (reverse found) (option_to_list assume) l (has-reverse found l a)
        | inr b ↦ has-append_right (reverse found) (option_to_list assume) l b
      ]

-- what is found is not what is assumed
not-assumed : (lines : List (List Literal)) (first : ℕ) (a d : Literal) (t kept : List Step) → IsFounded lines (Some a) t → IsPlaced first d [] t kept → d ≢ a
not-assumed lines first a d t kept f p e =
    let c = p.cut in
    let F : List Step → Type 0 = IsFounded lines (Some a) in
    let W : Why → Type 0 = λ w. RestsOn lines (Some a) kept c.step.lit w in
    let x = subst W c.decided (founded-above lines (Some a) c.above (c.step ∷ kept) (subst F c.parts f)).0 in
    let n = absent-lit kept d p.out in
    let P : Literal → Type 0 = λ k. has (lits kept) k ≡ false in
    let o = subst P e n in
    let y = x.1 in cc

pub learned-spread : (lines : List (List Literal)) (first m : ℕ) (t kept : List Step) (found : List Literal) (assume : Option Literal) (copy : List Literal) → IsFounded lines assume t → IsApart m t → AreChosen first found t → ArePlaced first found t kept → copy ≡ copy_of found assume → IsSpread copy
learned-spread lines first m t kept found assume copy f p h x e = subst IsSpread (sym e) (by found assume f h x) where
  by : (ds : List Literal) (o : Option Literal) → IsFounded lines o t → AreChosen first ds t → ArePlaced first ds t kept → IsSpread (copy_of ds o)
  by [] None g k x = tt
  by [] (Some a) g k x = tt
  by (d ∷ []) None g k x = tt
  by (d ∷ []) (Some a) g k x = λ q. not-assumed lines first a d t kept g x (negated-same d a q)
  by (d ∷ b ∷ ds) o g k x = λ q. (chosen-distinct first m (d ∷ b ∷ ds) t p k).0 b (has-head b ds) (ap (λ (j : Literal). j.var) (sym (negated-same d b q)))

-- the learned clause before each decision that is kept
learned-before : (kept : List Step) (late : Literal) (ds : List Literal) (assume : Option Literal) → has (lits kept) late ≡ false → BeforeDecisions (Lacks ds) kept → BeforeDecisions (λ set. IsWatched set set (copy_of (late ∷ ds) assume)) kept
learned-before kept late [] assume out o = before-map (Lacks []) (λ set. IsWatched set set (copy_of (late ∷ []) assume)) kept (λ set h. absurd h) o
learned-before kept late (d ∷ ds) assume out o =
    before-map (λ set. (has set late ≡ false) × Lacks (d ∷ ds) set) (λ set. IsWatched set set (copy_of (late ∷ d ∷ ds) assume)) kept
    (λ set p. inr (ap (has set) (negated-twice late) ∙ p.0, ap (has set) (negated-twice d) ∙ p.1))
    (before-both (λ set. has set late ≡ false) (Lacks (d ∷ ds)) kept (nowhere-before [] late kept out) o)

-- and after the step back
learned-done : (kept : List Step) (late : Literal) (ds : List Literal) (assume : Option Literal) (s : Step) → s.lit ≡ negated late → IsWatched (lits kept) (lits (s ∷ kept)) (copy_of (late ∷ ds) assume)
learned-done kept late ds assume s e = inl (
  negated late,
  has-head (negated late) (map negated (ds ++ option_to_list assume)),
  (let P : Literal → Type 0 = λ k. has (k ∷ lits kept) (negated late) ≡ true in subst P (sym e) (has-head (negated late) (lits kept))),
)

pub learned-queued : (first m : ℕ) (clauses new : List (List Literal)) (t kept after : List Step) (found copy : List Literal) (assume : Option Literal) (late : Literal) (ds : List Literal) (s : Step) (n : ℕ)
    → IsApart m t → found ≡ late ∷ ds → IsPlaced first late ds t kept → AreWatchedBefore clauses t → copy ≡ copy_of found assume → new ≡ clauses ++ copy ∷ [] → s.lit ≡ negated late → s.why ≡ Line n → after ≡ s ∷ kept → IsQueuedNow new after
learned-queued first m clauses new t kept after found copy assume late ds s n a f p b e k sl sw q =
    let out = absent-lit kept late p.out in
    let c = p.cut in
    let ce : copy ≡ copy_of (late ∷ ds) assume = e ∙ ap (λ x. copy_of x assume) f in
    let P1 : List Step → Type 0 = λ x. AreWatchedBefore clauses x in
    let bc = subst P1 c.parts b in
    let W : List Literal → Type 0 = λ x. BeforeDecisions (λ set. IsWatched set set x) (s ∷ kept) in
    let D : List Literal → Type 0 = λ x. IsWatched (lits kept) (lits (s ∷ kept)) x in
    let fresh = λ (x : List Literal) (g : BeforeDecisions (λ set. IsWatched set set x) kept). before-line (λ set. IsWatched set set x) s kept n sw g in
    let queued : IsQueued (clauses ++ copy ∷ []) (lits kept) (s ∷ kept) = record {
      before = lines-of clauses copy W (λ i l. fresh (line_at clauses i) (before-suffix (λ set. IsWatched set set (line_at clauses i)) (c.step ∷ []) kept (before-suffix (λ set. IsWatched set set (line_at clauses i)) c.above (c.step ∷ kept) (bc i l))))
          (subst W (sym ce) (fresh (copy_of (late ∷ ds) assume) (learned-before kept late ds assume out p.oldest)));
      done = lines-of clauses copy D (λ i l. watched-more (lits kept) (lits kept) (lits (s ∷ kept)) (line_at clauses i) (λ x g. has-tail s.lit x (lits kept) g) (before-cut (λ set. IsWatched set set (line_at clauses i)) c.above kept c.step c.decided (bc i l)))
          (subst D (sym ce) (learned-done kept late ds assume s sl));
      within = before-line (λ set. IsPart set (lits kept)) s kept n sw (before-within (lits kept) kept (λ l g. g));
    } in
    let Q : List (List Literal) → Type 0 = λ x. IsQueuedNow x (s ∷ kept) in
    let R : List Step → Type 0 = λ x. IsQueuedNow new x in
    subst R (sym q) (subst Q (sym k) queued)

-- a decision is taken where all was propagated
pub decided-queued : (clauses : List (List Literal)) (t after : List Step) (s : Step) → IsQueued clauses (lits t) t → after ≡ s ∷ t → IsQueued clauses (lits t) after
decided-queued clauses t after s h e =
    let P : List Step → Type 0 = λ x. IsQueued clauses (lits t) x in
    subst P (sym e) (record {
      before = λ i b. before-decided (λ set. IsWatched set set (line_at clauses i)) s t (h.done i b) (h.before i b);
      done = λ i b. watched-more (lits t) (lits t) (lits (s ∷ t)) (line_at clauses i) (λ x g. has-tail s.lit x (lits t) g) (h.done i b);
      within = before-decided (λ set. IsPart set (lits t)) s t (λ l g. g) h.within;
    })
