-- The step after a conflict, as the code takes it.
use Rattle.std.proofs.Common.{◌≡◌, ℕ, ◌-◌, ◌<◌, ◌≤◌, true, IfSome, List, [], ◌∷◌, ◌++◌, length, refl, sym, ap, subst, ◌∙◌, inl, inr, Option, Some, None, arith}
use Rattle.rt_clause.specs.Literal.{Literal, negated}
use Rattle.rt_clause.specs.Lists.{has, line_at, IsMet, Closed}
use Rattle.rt_solver.specs.Looking.{AreBelow}
use Rattle.rt_store.proofs.Number.{distance-step}
use Rattle.rt_store.proofs.FreshLaws.{consistent}
use Rattle.rt_clause.specs.Refuting.{Refutes}
use Rattle.rt_clause.proofs.Literals.{has-head, has-tail}
use Rattle.rt_store.specs.declared.trail.Step.{Step}
use Rattle.rt_store.specs.declared.trail.Why.{Why}
use Rattle.rt_store.specs.declared.trail.Why.TheVariants.{Line, Decided}
use Rattle.rt_store.specs.Trail.{lits, IsApart, RestsOn, IsFounded, distance}
use Rattle.rt_store.specs.Table.{Tracked}
use Rattle.rt_solver.specs.Analysis.{clause_of, AreChosen, IsPlaced, ArePlaced}
use Rattle.rt_solver.specs.Search.{IsReady, GoesOn, IsEnd}
use Rattle.rt_solver.specs.Propagating.{AreForced, IsPropagated}
use Rattle.rt_solver.proofs.Queues.{part-suffix}
use Rattle.rt_solver.proofs.Returning.{chosen-has, goes-on, has-var}

abbrev pub First : List Literal → Literal → Type 0
First found late = (rest : List Literal) × (found ≡ late ∷ rest)

pub chosen-at : (first : ℕ) (found : List Literal) (late : Literal) (rest : List Literal) (t : List Step) → found ≡ late ∷ rest → AreChosen first found t → AreChosen first (late ∷ rest) t
chosen-at first found late rest t e h = let P : List Literal → Type 0 = λ ds. AreChosen first ds t in subst P e h

pub placed-at : (first : ℕ) (found : List Literal) (late : Literal) (rest : List Literal) (t kept after : List Step) → found ≡ late ∷ rest → after ≡ kept → ArePlaced first found t kept → IsPlaced first late rest t after
placed-at first found late rest t kept after e q h =
    let P : List Literal → Type 0 = λ ds. ArePlaced first ds t kept in
    let Q : List Step → Type 0 = λ x. IsPlaced first late rest t x in
    subst Q (sym q) (subst P e h)

pub refuted-end : (lines new : List (List Literal)) (assume : Option Literal) (found clause : List Literal) → new ≡ lines ++ clause ∷ [] → clause ≡ clause_of found assume → found ≡ [] → IsEnd lines new assume
refuted-end lines new assume found clause n c f =
    let e : clause ≡ clause_of [] assume = c ∙ ap (λ ds. clause_of ds assume) f in
    let Q : List Literal → Type 0 = λ cl. Refutes assume cl in
    (clause, n, subst Q (sym e) (alone assume)) where
      alone : (o : Option Literal) → Refutes o (clause_of [] o)
      alone None = inl refl
      alone (Some a) = inr refl

pub low-at : (first m : ℕ) (t : List Step) (found : List Literal) (late : Literal) → IsApart m t → AreChosen first found t → First found late → late.var < m
low-at first m t found late a h f = has-var m t late a (chosen-has first (late ∷ f.0) t (chosen-at first found late f.0 t f.1 h) late (has-head late f.0))

pub finish : (lines new : List (List Literal)) (assume : Option Literal) (first : ℕ) (before after : Tracked) (kept : List Step) (found clause : List Literal) (late : Literal) (ds : List Literal) (step : Step)
    → IsReady lines assume before → AreChosen first found before.steps → found ≡ late ∷ ds → IsPlaced first late ds before.steps kept
    → clause ≡ clause_of found assume → new ≡ lines ++ clause ∷ [] → step.lit ≡ negated late → step.why ≡ Line (length new - 1) → after.steps ≡ step ∷ kept → after.vars ≡ before.vars
    → GoesOn lines new assume first before after
finish lines new assume first before after kept found clause late ds step r h f p c w sl sw sa av =
    let m = before.vars in
    let cut = p.cut in
    let cl : clause ≡ clause_of (late ∷ ds) assume = c ∙ ap (λ xs. clause_of xs assume) f in
    let nw : new ≡ lines ++ clause_of (late ∷ ds) assume ∷ [] = w ∙ ap (λ y. lines ++ y ∷ []) cl in
    let steps = cut.above ++ cut.step ∷ kept in
    let bq : before ≡ record { steps = steps; vars = m } = ap (λ t. record { steps = t; vars = m }) cut.parts in
    let R : Tracked → Type 0 = λ t. IsReady lines assume t in
    let D : List Step → Type 0 = AreChosen first (late ∷ ds) in
    let go = goes-on lines assume first m cut.above kept cut.step late ds (subst R bq r) (subst D cut.parts (chosen-at first found late ds before.steps f h)) cut.decided p.out p.others p.oldest
    (Line (length (lines ++ clause_of (late ∷ ds) assume ∷ []) - 1)) refl in
    let w0 = Line (length (lines ++ clause_of (late ∷ ds) assume ∷ []) - 1) in
    let sq : record { lit = negated late; why = w0 } ≡ step =
    (let lq : negated late ≡ step.lit = sym sl in
    let wq : w0 ≡ step.why = ap (λ (ls : List (List Literal)). Line (length ls - 1)) (sym nw) ∙ sym sw in
    λ i. record { lit = lq i; why = wq i }) in
    let aq : record { steps = record { lit = negated late; why = w0 } ∷ kept; vars = m } ≡ after =
    (let tq : record { lit = negated late; why = w0 } ∷ kept ≡ after.steps = ap (λ (x : Step). x ∷ kept) sq ∙ sym sa in
    let vq : m ≡ after.vars = sym av in
    λ i. record { steps = tq i; vars = vq i }) in
    let G1 : List (List Literal) → Type 0 = λ ls. GoesOn lines ls assume first before after in
    let G2 : Tracked → Type 0 = λ t. GoesOn lines (lines ++ clause_of (late ∷ ds) assume ∷ []) assume first t after in
    let G3 : Tracked → Type 0 = λ t. GoesOn lines (lines ++ clause_of (late ∷ ds) assume ∷ []) assume first (record { steps = steps; vars = m }) t in
    subst G1 (sym nw) (subst G2 (sym bq) (subst G3 aq go))

pub step-on : (lines : List (List Literal)) (assume : Option Literal) (before after : Tracked) (step : Step)
    → IsReady lines assume before → RestsOn lines assume before.steps step.lit step.why → after.steps ≡ step ∷ before.steps → after.vars ≡ before.vars → IsApart after.vars after.steps
    → IsReady lines assume after × (distance after.vars after.steps < distance before.vars before.steps)
step-on lines assume before after step r o s v a =
    let F : List Step → Type 0 = IsFounded lines assume in
    let A : List Step → Type 0 = λ t. IfSome assume (λ x. has (lits t) x ≡ true) in
    let B : ℕ → Type 0 = λ n. AreBelow n lines in
    let D : List Step → Type 0 = λ t. distance before.vars t < distance before.vars before.steps in
    let N : ℕ → Type 0 = λ n. distance n after.steps < distance before.vars before.steps in
    let P : ℕ → Type 0 = λ n. IsApart n after.steps in
    let Q : List Step → Type 0 = λ t. IsApart before.vars t in (
      record {
        founded = subst F (sym s) (o, r.founded);
        assumed = subst A (sym s) (more assume r.assumed);
        below = subst B (sym v) r.below;
        apart = a;
      },
      subst N (sym v) (subst D (sym s) (distance-step before.vars step before.steps (subst Q s (subst P v a)))),
    ) where
      more : (x : Option Literal) → IfSome x (λ y. has (lits before.steps) y ≡ true) → IfSome x (λ y. has (lits (step ∷ before.steps)) y ≡ true)
      more None h = tt
      more (Some y) h = has-tail step.lit y (lits before.steps) h

-- a trail over which every line is met is closed
pub closed-quiet : (m : ℕ) (lines : List (List Literal)) (t : List Step) → IsApart m t → ((i : ℕ) → i < length lines → IsMet (lits t) (line_at lines i)) → Closed lines (lits t)
closed-quiet m lines t a h = record { consistent = consistent m t a; met = h }

pub ready-decided : (lines : List (List Literal)) (assume : Option Literal) (before after : Tracked) (step : Step)
    → IsReady lines assume before → ((i : ℕ) → i < length lines → IsMet (lits before.steps) (line_at lines i)) → step.why ≡ Decided → after.steps ≡ step ∷ before.steps → after.vars ≡ before.vars → IsApart after.vars after.steps
    → IsReady lines assume after × (distance after.vars after.steps < distance before.vars before.steps)
ready-decided lines assume before after step r q w s v a =
    let W : Why → Type 0 = λ y. RestsOn lines assume before.steps step.lit y in
    step-on lines assume before after step r (subst W (sym w) (closed-quiet before.vars lines before.steps r.apart q, r.assumed)) s v a

-- propagation goes on
distance-above : (m : ℕ) (above t : List Step) → IsApart m (above ++ t) → distance m (above ++ t) ≤ distance m t
distance-above m [] t a = omega arith
distance-above m (s ∷ above) t a = let x = distance-step m s (above ++ t) a in let y = distance-above m above t a.2 in omega (arith, x, y)

founded-more : (lines : List (List Literal)) (assume : Option Literal) (above t : List Step) → AreForced lines above t → IsFounded lines assume t → IsFounded lines assume (above ++ t)
founded-more lines assume [] t h f = f
founded-more lines assume (s ∷ above) t h f =
    let x = h.0 in
    let P : Why → Type 0 = λ w. RestsOn lines assume (above ++ t) s.lit w in
    (subst P (sym x.why) (x.within, x.unit), founded-more lines assume above t h.1 f)

pub ready-propagated : (lines : List (List Literal)) (assume : Option Literal) (before after : Tracked) → IsReady lines assume before → IsPropagated lines before.steps after.steps → after.vars ≡ before.vars → IsApart after.vars after.steps
    → IsReady lines assume after × (distance after.vars after.steps ≤ distance before.vars before.steps)
ready-propagated lines assume before after r p v a =
    let F : List Step → Type 0 = IsFounded lines assume in
    let B : ℕ → Type 0 = λ n. AreBelow n lines in
    let A : List Step → Type 0 = λ t. IfSome assume (λ x. has (lits t) x ≡ true) in
    let D : ℕ → Type 0 = λ n. distance n after.steps ≤ distance before.vars before.steps in
    let E : List Step → Type 0 = λ t. distance before.vars t ≤ distance before.vars before.steps in
    let N : ℕ → Type 0 = λ n. IsApart n after.steps in
    let Q : List Step → Type 0 = λ t. IsApart before.vars t in (
      record {
        founded = subst F (sym p.steps) (founded-more lines assume p.above before.steps p.forced r.founded);
        assumed = subst A (sym p.steps) (more assume r.assumed);
        below = subst B (sym v) r.below;
        apart = a;
      },
      subst D (sym v) (subst E (sym p.steps) (distance-above before.vars p.above before.steps (subst Q p.steps (subst N v a)))),
    ) where
      more : (x : Option Literal) → IfSome x (λ y. has (lits before.steps) y ≡ true) → IfSome x (λ y. has (lits (p.above ++ before.steps)) y ≡ true)
      more None h = tt
      more (Some y) h = part-suffix p.above before.steps y h
