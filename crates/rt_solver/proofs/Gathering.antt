-- The literals that a conflict rests on, and the part of the trail to go back to.
use Rattle.std.proofs.Common.{◌≡◌, ℕ, zero, suc, ◌+◌, ◌-◌, ◌<◌, ◌≤◌, Bool, true, false, nat_eq, List, [], ◌∷◌, ◌++◌, length, take, drop, refl, sym, ap, subst, ◌∙◌, inl, inr, Option, Some, None, arith, rules, append_assoc, take-append-drop}
use Rattle.std.proofs.lemmas.List.{append-nil}
use Rattle.rt_clause.specs.Literal.{Literal}
use Rattle.rt_clause.specs.Lists.{has}
use Rattle.rt_store.specs.declared.trail.Step.{Step}
use Rattle.rt_store.specs.declared.trail.Why.{Why}
use Rattle.rt_store.specs.declared.trail.Why.TheVariants.{Line, Decided, Assumed}
use Rattle.rt_store.specs.Trail.{lits, value_in, IsApart, oldest, BeforeDecisions, IfDecided}
use Rattle.rt_solver.specs.declared.walk.Walk.{Walk}
use Rattle.rt_solver.specs.Analysis.{IsGathered, FindsNone, IsWalked, IsChoice, AreChosen, Lacks, IsBeforeDecision, ArePlaced, IsOldest, IsGatheredBy, EachStep, IsPlain, IsStop, IsStopUnder, IsDecisionUnder, IsLead, IsWalkedBy}
use Rattle.std.specs.Prelude.{MatchOption, IsTrue}
use Rattle.rt_store.specs.Table.{Tracked}
use Rattle.rt_solver.specs.Marking.{Marked, mark_at, marked_by}
use Rattle.rt_solver.proofs.Walks.{apart-drop, visit-unmarked, visit-found, oldest-none}
use Rattle.rt_solver.proofs.Stops.{pass-each, walk-passed, each-more}
use Rattle.rt_store.proofs.Number.{none-apart}
use Rattle.rt_store.proofs.FreshLaws.{absent-lit, nowhere-before}
use Rattle.rt_solver.proofs.Queues.{before-map, before-decided, oldest-above}

pub chosen-weaken : (first : ℕ) (ds : List Literal) (s : Step) (t : List Step) → AreChosen first ds t → AreChosen first ds (s ∷ t)
chosen-weaken first [] s t h = tt
chosen-weaken first (d ∷ ds) s t h = inr h

-- of a longer part
chosen-drop : (first : ℕ) (ds : List Literal) (n k : ℕ) (t : List Step) → n ≤ k → AreChosen first ds (drop k t) → AreChosen first ds (drop n t)
chosen-drop first ds zero zero t b h = h
chosen-drop first ds zero (suc k) [] b h = h
chosen-drop first ds zero (suc k) (s ∷ t) b h = chosen-weaken first ds s t (chosen-drop first ds zero k t (omega arith) h)
chosen-drop first ds (suc n) zero t b h = absurd (omega arith)
chosen-drop first ds (suc n) (suc k) [] b h = h
chosen-drop first ds (suc n) (suc k) (s ∷ t) b h = chosen-drop first ds n k t (omega arith) h

value-drop : (v n k : ℕ) (t : List Step) → n ≤ k → value_in (drop n t) v ≡ None → value_in (drop k t) v ≡ None
value-drop v zero zero t b h = h
value-drop v zero (suc k) [] b h = refl
value-drop v zero (suc k) (s ∷ t) b h = value-drop v zero k t (omega arith) (none-apart s t v h).1
value-drop v (suc n) zero t b h = absurd (omega arith)
value-drop v (suc n) (suc k) [] b h = refl
value-drop v (suc n) (suc k) (s ∷ t) b h = value-drop v n k t (omega arith) h

-- a part and the step above it
pub parted : (t rest : List Step) (i : ℕ) (s : Step) → oldest i t ≡ s ∷ rest → t ≡ take (length t - i) t ++ s ∷ rest
parted t rest i s e = sym (take-append-drop (length t - i) t) ∙ ap (λ x. take (length t - i) t ++ x) e

pub before-decision : (t : List Step) (i : ℕ) (s : Step) → oldest (i + 1) t ≡ s ∷ oldest i t → s.why ≡ Decided → IsBeforeDecision t (oldest i t)
before-decision t i s e d = record { above = take (length t - (i + 1)) t; step = s; parts = parted t (oldest i t) (i + 1) s e; decided = d }

if-not : (P : Type 0) (w : Why) → (w ≡ Decided → ⊥) → IfDecided w P
if-not P (Line r) n = tt
if-not P Decided n = absurd (n refl)
if-not P Assumed n = tt

oldest-skip : (ds : List Literal) (s : Step) (rest kept : List Step) → (ds ≡ [] → s.why ≡ Decided → ⊥) → IsOldest ds (s ∷ rest) kept → IsOldest ds rest kept
oldest-skip [] s rest kept n o = λ es b. o es (if-not (Lacks es (lits rest)) s.why (n refl), b)
oldest-skip (d ∷ ds) s rest kept n o = o

oldest-found : (m : ℕ) (ds : List Literal) (s : Step) (rest kept : List Step) → IsApart m (s ∷ rest) → IsOldest ds (s ∷ rest) kept → IsOldest (ds ++ s.lit ∷ []) rest kept
oldest-found m [] s rest kept a o =
    let out = absent-lit rest s.lit a.1 in
    o (s.lit ∷ []) (before-decided (Lacks (s.lit ∷ [])) s rest out (before-map (λ set. has set s.lit ≡ false) (Lacks (s.lit ∷ [])) rest (λ set h. h) (nowhere-before [] s.lit rest out)))
oldest-found m (d ∷ ds) s rest kept a o = before-map (Lacks (d ∷ ds)) (Lacks (d ∷ (ds ++ s.lit ∷ []))) kept (λ set h. h) o

-- a step is passed
pub gathered-skip : (first : ℕ) (trail rest kept : List Step) (s : Step) (found : List Literal) → (length found ≡ 1 → s.why ≡ Decided → ⊥) → IsGatheredBy first trail (s ∷ rest) kept found → IsGatheredBy first trail rest kept found
gathered-skip first trail rest kept s found n g = record {
  late = g.late;
  ds = g.ds;
  found_is = g.found_is;
  cut = g.cut;
  out = g.out;
  gone = (none-apart s rest g.late.var g.gone).1;
  lead = g.lead;
  chosen = λ more h. g.chosen more (chosen-weaken first more s rest h);
  oldest = oldest-skip g.ds s rest kept (λ e. n (ap length g.found_is ∙ ap (λ (x : List Literal). length (g.late ∷ x)) e)) g.oldest;
}

-- its literal is found
pub gathered-found : (first m : ℕ) (trail rest kept : List Step) (s : Step) (found new : List Literal) → IsApart m (s ∷ rest) → IsChoice first s → new ≡ found ++ s.lit ∷ [] → IsGatheredBy first trail (s ∷ rest) kept found → IsGatheredBy first trail rest kept new
gathered-found first m trail rest kept s found new a c e g = record {
  late = g.late;
  ds = g.ds ++ s.lit ∷ [];
  found_is = e ∙ ap (λ xs. xs ++ s.lit ∷ []) g.found_is;
  cut = g.cut;
  out = g.out;
  gone = (none-apart s rest g.late.var g.gone).1;
  lead = g.lead;
  chosen = λ more h.
      let A : List Literal → Type 0 = λ ls. AreChosen first ls kept in
      subst A (sym (append_assoc g.ds (s.lit ∷ []) more)) (g.chosen (s.lit ∷ more) (inl (refl, c, h)));
  oldest = oldest-found m g.ds s rest kept a g.oldest;
}

none-more : (found : List Literal) (late : Literal) (ds : List Literal) → found ≡ late ∷ ds → length found ≡ 1 → ds ≡ []
none-more found late [] e b = refl
none-more found late (d ∷ ds) e b = absurd (let q = ap length e in omega (arith, q, b))

-- it is a decision, before which the part to go back to may end
pub gathered-cut : (first : ℕ) (trail rest kept : List Step) (s : Step) (found : List Literal) → length found ≡ 1 → IsBeforeDecision trail rest → IsGatheredBy first trail (s ∷ rest) kept found → IsGatheredBy first trail rest rest found
gathered-cut first trail rest kept s found b d g =
    let n = none-more found g.late g.ds g.found_is b in
    let gone = (none-apart s rest g.late.var g.gone).1 in
    record {
      late = g.late;
      ds = [];
      found_is = g.found_is ∙ ap (λ (x : List Literal). g.late ∷ x) n;
      cut = d;
      out = gone;
      gone = gone;
      lead = λ xs h. g.lead xs (let A : List Literal → Type 0 = λ x. AreChosen first (x ++ xs) kept in subst A n (g.chosen xs (chosen-weaken first xs s rest h)));
      chosen = λ more h. h;
      oldest = λ es h. h;
    }

-- the latest literal is found
pub gathered-lead : (first m : ℕ) (trail : List Step) (marked : ℕ → Bool) (place cut : ℕ) (s : Step) (found new : List Literal) → IsApart m (s ∷ oldest place trail) → oldest (place + 1) trail ≡ s ∷ oldest place trail → IsLead first trail marked place cut s → found ≡ [] → new ≡ found ++ s.lit ∷ []
    → IsGatheredBy first trail (oldest cut trail) (oldest cut trail) new
gathered-lead first m trail marked place cut s found new a e l f n =
    let o = l.under.order in
    let k = length trail - cut in
    let p = length trail - place in
    let b : p ≤ k = omega (arith, o) in
    let gone = value-drop s.lit.var p k trail b a.1 in
    record {
      late = s.lit;
      ds = [];
      found_is = n ∙ ap (λ xs. xs ++ s.lit ∷ []) f;
      cut = l.under.decision;
      out = gone;
      gone = gone;
      lead = λ xs h.
          let A : List Step → Type 0 = AreChosen first (s.lit ∷ xs) in
          let here = subst A (sym e) (inl (refl, l.choice, chosen-drop first xs p k trail b h)) in
          chosen-drop first (s.lit ∷ xs) 0 (length trail - (place + 1)) trail (omega arith) here;
      chosen = λ more h. h;
      oldest = λ es h. h;
    }

oldest-end : (ds : List Literal) (kept : List Step) → IsOldest ds [] kept → BeforeDecisions (Lacks ds) kept
oldest-end [] kept o = o [] tt
oldest-end (d ∷ ds) kept o = o

-- all is gathered
pub gathered-all : (first : ℕ) (trail rest kept : List Step) (found : List Literal) → rest ≡ [] → IsGatheredBy first trail rest kept found → AreChosen first found trail × ArePlaced first found trail kept
gathered-all first trail rest kept found e g =
    let A : List Literal → Type 0 = λ ls. AreChosen first ls kept in
    let others = subst A (append-nil g.ds) (g.chosen [] tt) in
    let P : List Literal → Type 0 = λ ls. AreChosen first ls trail × ArePlaced first ls trail kept in
    let O : List Step → Type 0 = λ r. IsOldest g.ds r kept in
    subst P (sym g.found_is) (g.lead g.ds others, record { cut = g.cut; out = g.out; others = others; oldest = oldest-end g.ds kept (subst O e g.oldest) })

-- no literal is found
pub placed-none : (first : ℕ) (trail kept : List Step) (found : List Literal) → found ≡ [] → AreChosen first found trail × ArePlaced first found trail kept
placed-none first trail kept found e = let P : List Literal → Type 0 = λ ls. AreChosen first ls trail × ArePlaced first ls trail kept in subst P (sym e) (tt, tt)

-- the newest step is left off
pub popped : (place : ℕ) (old new : Tracked) (o : Option Step) → place < length old.steps → MatchOption o ((old.steps ≡ []) × (new ≡ old)) (λ s. old.steps ≡ s ∷ new.steps) → (place ≤ length new.steps) × (oldest place new.steps ≡ oldest place old.steps)
popped place old new None b h = absurd (let e = ap length h.0 in omega (arith, e, b))
popped place old new (Some s) b h =
    let e = ap length h in
    let k : place ≤ length new.steps = omega (arith, e, b) in
    (k, sym (ap (oldest place) h ∙ oldest-above place (s ∷ []) new.steps k))

pub apart-at : (m : ℕ) (t : List Step) (i : ℕ) (s : Step) → IsApart m t → oldest (i + 1) t ≡ s ∷ oldest i t → IsApart m (s ∷ oldest i t)
apart-at m t i s a e = let P : List Step → Type 0 = IsApart m in subst P e (apart-drop m (length t - (i + 1)) t a)

-- a decision leads
pub lead-decided : (first : ℕ) (trail : List Step) (marked : ℕ → Bool) (place : ℕ) (s : Step) → oldest (place + 1) trail ≡ s ∷ oldest place trail → s.why ≡ Decided → IsLead first trail marked place place s
lead-decided first trail marked place s e d = record {
  choice = inr d;
  under = record { order = omega arith; decision = before-decision trail place s e d; alone = λ k r a b h. absurd (omega (arith, a, b)) };
}

-- a decision that is not marked, where the walk stops below the place
pub decision-under : (trail : List Step) (marked : ℕ → Bool) (place stop : ℕ) (s : Step) → oldest (stop + 1) trail ≡ s ∷ oldest stop trail → marked s.lit.var ≡ false → IsStopUnder trail marked true place stop → IsDecisionUnder trail marked place stop
decision-under trail marked place stop s e n h = record {
  order = (let o = h.order in omega (arith, o));
  decision = before-decision trail stop s e (elim (h.here s e) [ inl m ↦ absurd (cc) | inr d ↦ d.1 ]);
  alone = each-more (λ r. marked r.lit.var ≡ false) trail stop place s e n (λ k r a b g. (h.passed k r a b g).0);
}

-- the walk after a literal is found
pub lead-walked : (lines : List (List Literal)) (assume : Option Literal) (vars : ℕ) (rest : List Step) (s : Step) (marks marks' : Marked) (found new : List Literal) (hints hints' : List ℕ)
    → marked_by marks s.lit.var ≡ true → marks'.marks ≡ marks.marks → marks'.due ≡ marks.due - 1 → new ≡ found ++ s.lit ∷ [] → hints' ≡ hints
    → IsWalkedBy lines assume vars (s ∷ rest) marks found hints → IsWalkedBy lines assume vars rest marks' new hints'
lead-walked lines assume vars rest s marks marks' found new hints hints' m em ed ef eh w =
    let F : List Literal → Type 0 = λ x. IsWalkedBy lines assume vars rest marks' x hints' in
    let H : List ℕ → Type 0 = λ x. IsWalkedBy lines assume vars rest marks' (found ++ s.lit ∷ []) x in
    subst F (sym ef) (subst H (sym eh) (visit-found lines assume vars rest s marks marks' found hints m em ed w))

-- and after the steps below it down to the cut, none of which is marked
pub lead-under : (lines : List (List Literal)) (assume : Option Literal) (vars : ℕ) (trail : List Step) (place cut : ℕ) (marks marks' : Marked) (found : List Literal) (hints : List ℕ)
    → marks'.marks ≡ marks.marks → place ≤ length trail → IsDecisionUnder trail (marked_by marks) place cut
    → IsWalkedBy lines assume vars (oldest place trail) marks' found hints → IsWalkedBy lines assume vars (oldest cut trail) marks' found hints
lead-under lines assume vars trail place cut marks marks' found hints e b u w =
    let M : List Bool → Type 0 = λ ms. EachStep (λ s. mark_at ms s.lit.var ≡ false) trail cut place in
    walk-passed lines assume vars trail cut place marks' found hints u.order b (subst M (sym e) u.alone) w

-- plain steps are passed
pub gathered-passed : (lines : List (List Literal)) (assume : Option Literal) (first : ℕ) (trail : Tracked) (low high cut : ℕ) (walk : Walk) → low ≤ high → high ≤ length trail.steps → EachStep (IsPlain (marked_by walk.marks) (nat_eq (length walk.found.items) 1)) trail.steps low high
    → IsGathered lines assume first trail high cut walk → IsGathered lines assume first trail low cut walk
gathered-passed lines assume first trail low high cut walk b l h g = record {
  within = g.within;
  walked = walk-passed lines assume trail.vars trail.steps low high walk.marks walk.found.items walk.hints.items b l (λ k s x y e. (h k s x y e).0) g.walked;
  gathered = pass-each (λ t. IsGatheredBy first trail.steps t (oldest cut trail.steps) walk.found.items) (IsPlain (marked_by walk.marks) (nat_eq (length walk.found.items) 1)) trail.steps low high b l
      (λ s rest p x. gathered-skip first trail.steps rest (oldest cut trail.steps) s walk.found.items (λ o. p.1 (let q : nat_eq (length walk.found.items) 1 ≡ true = rw o refl in q)) x) h g.gathered;
}

-- a decision that is not marked is passed, and the part to go back to ends before it
pub gathered-decided : (lines : List (List Literal)) (assume : Option Literal) (first : ℕ) (trail : Tracked) (place cut : ℕ) (walk : Walk) (s : Step) → place < length trail.steps → oldest (place + 1) trail.steps ≡ s ∷ oldest place trail.steps
    → marked_by walk.marks s.lit.var ≡ false → IsStop (marked_by walk.marks) (nat_eq (length walk.found.items) 1) s → IsGathered lines assume first trail (place + 1) cut walk → IsGathered lines assume first trail place place walk
gathered-decided lines assume first trail place cut walk s b e n h g =
    let rest = oldest place trail.steps in
    let P : List Step → Type 0 = λ t. IsWalkedBy lines assume trail.vars t walk.marks walk.found.items walk.hints.items in
    let G : List Step → Type 0 = λ t. IsGatheredBy first trail.steps t (oldest cut trail.steps) walk.found.items in
    let d : (IsTrue (nat_eq (length walk.found.items) 1)) × (s.why ≡ Decided) = elim h [ inl m ↦ absurd (cc) | inr d ↦ d ] in
    record {
      within = omega (arith, b);
      walked = visit-unmarked lines assume trail.vars rest s walk.marks walk.found.items walk.hints.items n (subst P e g.walked);
      gathered = gathered-cut first trail.steps rest (oldest cut trail.steps) s walk.found.items (let t = d.0 in search rules) (before-decision trail.steps place s e d.1) (subst G e g.gathered);
    }

pub sought-end : (lines : List (List Literal)) (assume : Option Literal) (trail : Tracked) (decisions : Bool) (place : ℕ) (walk : Walk) → place ≤ length trail.steps → EachStep (IsPlain (marked_by walk.marks) decisions) trail.steps 0 place → walk.found.items ≡ []
    → IsWalked lines assume trail.vars (oldest place trail.steps) walk → FindsNone lines assume trail walk
sought-end lines assume trail decisions place walk b h n w =
    let P : List Step → Type 0 = λ t. IsWalkedBy lines assume trail.vars t walk.marks walk.found.items walk.hints.items in
    record { none = n; walked = subst P (oldest-none trail.steps) (walk-passed lines assume trail.vars trail.steps 0 place walk.marks walk.found.items walk.hints.items (omega arith) b (λ k s x y e. (h k s x y e).0) w) }

pub found-same : (first : ℕ) (trail rest kept : List Step) (found new : List Literal) → new ≡ found → IsGatheredBy first trail rest kept found → IsGatheredBy first trail rest kept new
found-same first trail rest kept found new e g = let P : List Literal → Type 0 = λ x. IsGatheredBy first trail rest kept x in subst P (sym e) g
