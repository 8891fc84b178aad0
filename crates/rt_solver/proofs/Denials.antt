-- The line that denies a question: it follows, and it ends the search.
use Rattle.std.proofs.Common.{◌≡◌, ℕ, zero, suc, ◌+◌, ◌<◌, ◌≤◌, Bool, true, false, ◌&&◌, List, [], ◌∷◌, ◌++◌, length, length-append, slice_index_or, refl, sym, ap, subst, ◌∙◌, ◌⊎◌, inl, inr, Option, Some, None, IfSome, arith}
use Rattle.std.specs.List.{list_all}
use Rattle.std.specs.Option.{option_to_list}
use Rattle.rt_clause.specs.Literal.{Literal, negated, lit_eq}
use Rattle.rt_clause.specs.Lists.{has, is_false, line_at}
use Rattle.rt_clause.specs.Refuting.{Refutes, IsRefuted, is_negation, IsDenied}
use Rattle.rt_clause.specs.declared.denial.Denial.TheVariants.{Opposite, Line as ByLine}
use Rattle.rt_clause.proofs.Bools.{or-left, or-right}
use Rattle.rt_clause.proofs.Literals.{lit_eq-refl, negated-twice, negated-same, has-head}
use Rattle.rt_clause.proofs.Propagating.{step-nothing, left-empty}
use Rattle.rt_store.specs.declared.trail.Step.{Step}
use Rattle.rt_store.specs.declared.trail.Why.{Why}
use Rattle.rt_store.specs.declared.trail.Why.TheVariants.{Line, Decided, Assumed}
use Rattle.rt_store.specs.Trail.{lits, oldest, decisions, decided_by, IsApart}
use Rattle.rt_store.specs.Same.{IsSpread}
use Rattle.rt_store.proofs.FreshLaws.{line_at-end, consistent}
use Rattle.rt_solver.specs.Analysis.{Explains, IsWalkedBy, IsStop, causes}
use Rattle.rt_solver.specs.Marking.{Marked, marked_by, marked_steps}
use Rattle.rt_solver.specs.Search.{line_of}
use Rattle.rt_solver.specs.Seeking.{HasDenied}
use Rattle.rt_solver.proofs.Counts.{count-none}
use Rattle.rt_solver.proofs.Gathering.{before-decision}
use Rattle.rt_solver.proofs.Requeue.{copy_of}

-- where nothing is decided, no step is a decision
none-above : (above kept : List Step) (s : Step) → s.why ≡ Decided → decisions (above ++ s ∷ kept) ≡ [] → ⊥
none-above [] kept s d e = let P : Why → Type 0 = λ w. decided_by w s.lit (decisions kept) ≡ [] in let q = subst P d e in cc
none-above (a ∷ above) kept s d e = by a.why (λ q. none-above above kept s d q) e where
  by : (w : Why) → (decisions (above ++ s ∷ kept) ≡ [] → ⊥) → decided_by w a.lit (decisions (above ++ s ∷ kept)) ≡ [] → ⊥
  by (Line r) more q = more q
  by Decided more q = cc
  by Assumed more q = more q

pub undecided-at : (t : List Step) (i : ℕ) (s : Step) → decisions t ≡ [] → oldest (i + 1) t ≡ s ∷ oldest i t → s.why ≡ Decided → ⊥
undecided-at t i s n e d =
    let b = before-decision t i s e d in
    let P : List Step → Type 0 = λ x. decisions x ≡ [] in
    none-above b.above (oldest i t) b.step b.decided (subst P b.parts n)

-- a stop where decisions do not count is marked
pub stop-plain : (marked : ℕ → Bool) (s : Step) → IsStop marked false s → marked s.lit.var ≡ true
stop-plain marked s h = elim h [ inl m ↦ m | inr d ↦ absurd (let t = d.0 in cc) ]

-- the walk back begins with the line that forced the negation of the question
pub walk-asked : (lines : List (List Literal)) (assume : Option Literal) (vars : ℕ) (rest : List Step) (old marks : Marked) (found : List Literal) (hints : List ℕ) (question : Literal) (r : ℕ)
    → found ≡ question ∷ [] → hints ≡ r ∷ [] → length marks.marks ≡ vars → IsApart vars rest → ((v : ℕ) → marked_by old v ≡ false)
    → ((n : ℕ) (t : List Step) → IsApart n t → marked_steps marks t + old.due ≤ marked_steps old t + marks.due)
    → r < length lines → ((k : Literal) → has (line_at lines r) k ≡ true → (k ≡ negated question) ⊎ (is_false (lits rest) k ≡ true)) → ((k : Literal) → has (line_at lines r) k ≡ true → marked_by marks k.var ≡ true)
    → IsWalkedBy lines assume vars rest marks found hints
walk-asked lines assume vars rest old marks found hints question r b d l a u n e f m =
    let Q : List Literal → Type 0 = λ x. IsWalkedBy lines assume vars rest marks x hints in
    let R : List ℕ → Type 0 = λ hs. IsWalkedBy lines assume vars rest marks (question ∷ []) hs in
    let z = count-none old.marks rest u in
    let k = n vars rest a in
    subst Q (sym b) (subst R (sym d) (record {
      vars_is = l;
      counted = omega (arith, z, k);
      within = one e;
      explains = explains;
    })) where
      one : r < length lines → (k d : ℕ) → k < length (r ∷ []) → slice_index_or (r ∷ []) k d < length lines
      one b zero d h = b
      one b (suc k) d h = absurd (omega arith)

      explains : Explains lines (marked_by marks) (causes (question ∷ []) assume) rest (r ∷ [])
      explains set found old = step-nothing lines set r [] (left-empty set (line_at lines r) (λ k g. elim (f k g) [
        | inl q ↦ (let P : Literal → Type 0 = λ x. has set x ≡ true in subst P (sym (ap negated q ∙ negated-twice question)) (found question (has-head question (option_to_list assume))))
        | inr x ↦ old (negated k) (m k g) x
      ]))

-- what is false on the trail is not what is assumed
pub asked-spread : (m : ℕ) (t : List Step) (assume : Option Literal) (question : Literal) (copy : List Literal) → IsApart m t → is_false (lits t) question ≡ true → IfSome assume (λ a. has (lits t) a ≡ true) → copy ≡ copy_of (question ∷ []) assume → IsSpread copy
asked-spread m t assume question copy p h a e = subst IsSpread (sym e) (by assume a) where
  clash : {b : Bool} → b ≡ true → b ≡ false → ⊥
  clash x y = cc

  by : (o : Option Literal) → IfSome o (λ x. has (lits t) x ≡ true) → IsSpread (copy_of (question ∷ []) o)
  by None g = tt
  by (Some x) g = λ q. (let P : Literal → Type 0 = λ k. has (lits t) k ≡ true in clash h (consistent m t p question (subst P (sym (negated-same question x q)) g)))

denies-line : (assume : Option Literal) (question : Literal) → list_all (is_negation assume question) (line_of assume (negated question ∷ [])) ≡ true
denies-line None question = and-true (lit_eq-refl (negated question)) refl where
  and-true : {a b : Bool} → a ≡ true → b ≡ true → (a && b) ≡ true
  and-true p q = cc
denies-line (Some a) question = and-true (or-left _ _ (lit_eq-refl (negated question))) (and-true (or-right (lit_eq (negated a) (negated question)) _ (lit_eq-refl (negated a))) refl) where
  and-true : {x y : Bool} → x ≡ true → y ≡ true → (x && y) ≡ true
  and-true p q = cc

-- so the lines deny the question
pub has-denied : (old new : List (List Literal)) (fo fn : List Bool) (assume : Option Literal) (question : Literal) → HasDenied old new fo fn assume question → IsDenied new assume question
has-denied old new fo fn assume question h = elim h [
  | inl o ↦ (Opposite, o.0)
  | inr l ↦ (let line = line_of assume (negated question ∷ []) in
      let P : List (List Literal) → Type 0 = λ ls. IsDenied ls assume question in
      let T : List Literal → Type 0 = λ c. list_all (is_negation assume question) c ≡ true in
      let n = length-append old (line ∷ []) in
      subst P (sym l.0) (ByLine (length old), (omega (arith, n), subst T (sym (line_at-end old line)) (denies-line assume question))))
]

-- and so do lines that refute
pub refuted-denied : (lines : List (List Literal)) (assume : Option Literal) (question : Literal) → IsRefuted lines assume → IsDenied lines assume question
refuted-denied lines assume question r = (ByLine r.0, (r.1, by assume r.2)) where
  by : (o : Option Literal) → Refutes o (line_at lines r.0) → list_all (is_negation o question) (line_at lines r.0) ≡ true
  by o (inl e) = let T : List Literal → Type 0 = λ c. list_all (is_negation o question) c ≡ true in subst T (sym e) refl
  by None (inr e) = absurd e
  by (Some a) (inr e) = let T : List Literal → Type 0 = λ c. list_all (is_negation (Some a) question) c ≡ true in subst T (sym e) (one a) where
    one : (a : Literal) → list_all (is_negation (Some a) question) (negated a ∷ []) ≡ true
    one a = let h = or-right (lit_eq (negated a) (negated question)) _ (lit_eq-refl (negated a)) in cc
