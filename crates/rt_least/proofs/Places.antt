-- The search for the first choice place by place, and the nogoods that it leaves.
use Rattle.std.proofs.Common.{◌≡◌, ℕ, suc, ◌+◌, ◌<◌, ◌≤◌, ◌^◌, Bool, true, false, not, cond, ◌||◌, ◌&&◌, ◌⊎◌, inl, inr, List, [], ◌∷◌, ◌++◌, append_assoc, filter, map, take, length, length-append, slice_index_or, refl, sym, ap, subst, ◌∙◌, Option, Some, None, IsSomeAnd, arith}
use Rattle.std.specs.Bool.{beq}
use Rattle.rt_value.specs.Keep.{size}
use Rattle.rt_clause.specs.Literal.{Literal, negated}
use Rattle.rt_clause.specs.Lists.{has, line_at, IsMet, Closed, HasNoRepeat, Fresh, Determined, AreBelow}
use Rattle.rt_clause.specs.Models.{lit_true, clause_true, IsModel}
use Rattle.rt_clause.specs.Refuting.{IsRefuted}
use Rattle.rt_clause.specs.Gates.{gate}
use Rattle.rt_clause.proofs.Bools.{bool-cases, and-both, or-cases, or-left, or-right}
use Rattle.rt_clause.proofs.EachLine.{EachLine, each-none, each-cons, each-head, each-tail, each-append, each-back, closed-front}
use Rattle.rt_clause.proofs.Following.{lit_true-negated}
use Rattle.rt_clause.proofs.GateLaws.{IsTrueAt}
use Rattle.rt_clause.proofs.Literals.{has-head, has-tail, has-cases, has-append_right, has-append_cases, negated-twice}
use Rattle.rt_formula.specs.Shared.{Shared, bool_at}
use Rattle.rt_solver.specs.Search.{KeepsModels, line_of, AreFresh}
use Rattle.rt_solver.specs.Solving.{variables, IsSpent}
use Rattle.rt_solver.specs.Answers.{IsModelled}
use Rattle.rt_totalizer.specs.Cells.{kept_below}
use Rattle.rt_totalizer.proofs.CellLaws.{each-of_two, unit-has}
use Rattle.rt_totalizer.proofs.Totals.{kept-agrees}
use Rattle.rt_least.specs.Aimed.{IsAimed}
use Rattle.rt_least.specs.Attempts.{IsGivenUp, IsGrown}
use Rattle.rt_least.specs.Leading.{AllFew, HasValue, IsLeading}
use Rattle.rt_least.specs.Least.{IsLeast}
use Rattle.rt_least.specs.Sought.{AreInside, IsSought, IsSpentWithin, not_kept}
use Rattle.rt_least.specs.Nogoods.{AreFreshAlone, IsNogood}
use Rattle.rt_least.specs.Widened.{widened}
use Rattle.rt_least.proofs.Aiming.{determined-less, model-sought, refuted-false, variables-le}
use Rattle.rt_least.proofs.Apart.{fresh-apart}
use Rattle.rt_least.proofs.Asking.{both-aimed}
use Rattle.rt_least.proofs.Keeps.{bare-one, before-from, before-place, kept-off, kept-on, rest-bare}
use Rattle.rt_least.proofs.Leading.{both-value, leading-first, leading-found, leading-kept, leading-moved, leading-on, row-value, value-on}
use Rattle.rt_least.proofs.Nogoods.{any-append, clause-agrees, each-line, fresh-some, inside-fresh, line-true, met-without}
use Rattle.rt_least.proofs.Taking.{take-index, take-length}

clash : {b : Bool} → b ≡ true → b ≡ false → ⊥
clash p q = cc

-- the negations of rows below a place, each once
pub record AreLeft (place : ℕ) (left : List Literal) : Type 0 where
  pub once : HasNoRepeat left
  pub each : (l : Literal) → has left l ≡ true → l.var < place

-- each of the rows whose negations these are is one of the cone
abbrev pub AreKept : List Bool → List Literal → Type 0
AreKept cone left = (l : Literal) → has left l ≡ true → bool_at cone l.var ≡ true

-- each closed set with the held literal has the rows whose negations these are
abbrev pub Holds : List (List Literal) → Literal → List Literal → Type 0
Holds lines held left = (set : List Literal) → Closed lines set → has set held ≡ true → (l : Literal) → has left l ≡ true → has set (negated l) ≡ true

-- at a choice of no more rows than the best some of the rows is left out, or the value is true
abbrev pub LeavesOrHas : Shared → ℕ → List Bool → List Bool → List Literal → (List Bool → Bool) → Type 0
LeavesOrHas d goal cone best left value = (s : List Bool) → IsSought d goal cone s → size s ≤ size best → (clause_true s left ≡ true) ⊎ (value s ≡ true)

-- what is known before a place is tried
pub record IsPlaced (d : Shared) (goal : ℕ) (cone : List Bool) (lines : List (List Literal)) (next : ℕ) (best : List Bool) (place : ℕ) (held : Literal) (left : List Literal) : Type 0 where
  pub aimed : IsAimed d goal cone lines next
  pub count : kept_below place best ≡ length left
  pub leading : IsLeading d goal cone lines best place held
  pub low : held.var < next
  pub are_left : AreLeft place left
  pub kept_left : AreKept cone left
  pub holds : Holds lines held left
  pub leaves : LeavesOrHas d goal cone best left leading.value

-- a place more is counted where it is kept, and only there
next-kept : (place : ℕ) (xs : List Bool) → slice_index_or xs place false ≡ true → kept_below (place + 1) xs ≡ kept_below place xs + 1
next-kept place xs h = ap (λ i. kept_below i xs) (let s : place + 1 ≡ suc place = omega arith in s) ∙ kept-on place xs h

next-left : (place : ℕ) (xs : List Bool) → slice_index_or xs place false ≡ false → kept_below (place + 1) xs ≡ kept_below place xs
next-left place xs h = ap (λ i. kept_below i xs) (let s : place + 1 ≡ suc place = omega arith in s) ∙ kept-off place xs h

pub placed-begun : (d : Shared) (goal : ℕ) (cone : List Bool) (lines : List (List Literal)) (next : ℕ) (best : List Bool) (held : Literal) → IsAimed d goal cone lines next → AllFew d goal cone lines best held → held.var < next → IsPlaced d goal cone lines next best 0 held []
placed-begun d goal cone lines next best held h a low = record {
  aimed = h;
  count = refl;
  leading = a.0;
  low = low;
  are_left = record { once = tt; each = λ l g. absurd (cc) };
  kept_left = λ l g. absurd (cc);
  holds = λ set c g l k. absurd (cc);
  leaves = λ s g z. inr (a.1 s g z);
}

-- all rows that the best choice keeps are settled
pub placed-all : (d : Shared) (goal : ℕ) (cone : List Bool) (lines : List (List Literal)) (next : ℕ) (best : List Bool) (place : ℕ) (held : Literal) (left : List Literal) → IsPlaced d goal cone lines next best place held left → place ≤ d.rows → size best ≤ length left → IsLeast (IsSought d goal cone) best
placed-all d goal cone lines next best place held left p w h =
    let t = p.leading.best_is.0 in
    let n = p.count in
    leading-first d goal cone lines best place (length best) held p.leading (record {
      from = omega (arith, w, t);
      within = omega arith;
      bare = rest-bare place best (omega (arith, h, n));
      kept = λ b. absurd (omega (arith, b));
    }) (omega (arith, t))

-- all rows are settled
pub placed-end : (d : Shared) (goal : ℕ) (cone : List Bool) (lines : List (List Literal)) (next : ℕ) (best : List Bool) (place : ℕ) (held : Literal) (left : List Literal) → IsPlaced d goal cone lines next best place held left → d.rows ≤ place → IsLeast (IsSought d goal cone) best
placed-end d goal cone lines next best place held left p w = record {
  is_target = p.leading.best_is;
  least = p.leading.fewest;
  first = λ s g e b. (
      let l = before-place s best b in
      let f = before-from place s best (p.leading.alike s g (p.leading.rivals s g e b)) b in
      let t = g.0 in
      omega (arith, l, f, t, w));
}

-- the lines with the literal that is asked
pub record IsTried (d : Shared) (goal : ℕ) (cone : List Bool) (lines : List (List Literal)) (next : ℕ) (best : List Bool) (place : ℕ) (held asked : Literal) (left left' : List Literal) : Type 0 where
  pub aimed : IsAimed d goal cone lines next
  pub count : kept_below place best ≡ length left
  pub leading : IsLeading d goal cone lines best place held
  pub low : held.var < next
  pub asked_low : asked.var < next
  pub within : place < d.rows
  pub was_left : AreLeft place left
  pub was_kept : AreKept cone left
  pub kept_left : AreKept cone left'
  pub are_left : AreLeft (place + 1) left'
  pub more_left : length left' ≡ length left + 1
  pub held_holds : Holds lines held left
  pub holds : Holds lines asked left'
  pub asked_is : HasValue d lines asked (λ s. leading.value s && slice_index_or s place false)
  pub were_leaves : LeavesOrHas d goal cone best left leading.value
  pub leaves : LeavesOrHas d goal cone best left' (λ s. leading.value s && slice_index_or s place false)

-- a closed set with a gate's literal has the literals of the gate
gate-holds : (lines given : List (List Literal)) (a b out : Literal) (set : List Literal) → given ≡ lines ++ gate out (a ∷ b ∷ []) → Closed given set → has set out ≡ true → (has set a ≡ true) × (has set b ≡ true)
gate-holds lines given a b out set e c h =
    let C : List (List Literal) → Type 0 = λ ls. Closed ls set in
    let k = subst C e c in
    let met = each-back (IsMet set) lines (gate out (a ∷ b ∷ [])) k.met in
    (one a (met 0 (omega arith)), one b (met 1 (omega arith))) where
      one : (l : Literal) → IsMet set (negated out ∷ l ∷ []) → has set l ≡ true
      one l m = unit-has set (negated out ∷ l ∷ []) l c.consistent m
          (each-of_two (λ k. (k ≡ l) ⊎ (has set (negated k) ≡ true)) (negated out) l (inr (ap (has set) (negated-twice out) ∙ h)) (inl refl))

-- one more literal of a variable that is not among them
once-end : (ls : List Literal) (l : Literal) → HasNoRepeat ls → ((k : Literal) → has ls k ≡ true → k.var < l.var) → HasNoRepeat (ls ++ l ∷ [])
once-end [] l h b = ((λ k g. absurd (cc)), tt)
once-end (x ∷ xs) l h b = (
  (λ k g e. elim (has-append_cases xs (l ∷ []) k g) [
    | inl y ↦ h.0 k y e
    | inr y ↦ elim (has-cases l k [] y) [
      | inl q ↦ (let p = b x (has-head x xs) in let v = ap (λ (j : Literal). j.var) q in omega (arith, p, v, e))
      | inr c ↦ absurd (cc)
    ]
  ]),
  once-end xs l h.1 (λ k g. b k (has-tail x k xs g)),
)

holds-on : (lines new more : List (List Literal)) (held : Literal) (left : List Literal) → new ≡ lines ++ more → Holds lines held left → Holds new held left
holds-on lines new more held left e h set c g = (let C : List (List Literal) → Type 0 = λ ls. Closed ls set in h set (closed-front lines more set (subst C e c)) g)

pub tried-given : (d : Shared) (goal : ℕ) (cone : List Bool) (lines given : List (List Literal)) (next : ℕ) (best : List Bool) (place : ℕ) (held x asked : Literal) (left : List Literal) → IsPlaced d goal cone lines next best place held left → place < d.rows → bool_at cone place ≡ true
    → x.var ≡ place → x.on ≡ true → asked.var ≡ next → given ≡ lines ++ gate asked (held ∷ x ∷ []) → IsTried d goal cone given (next + 1) best place held asked left (left ++ negated x ∷ [])
unfolding leading-on
tried-given d goal cone lines given next best place held x asked left p r inside xv xo av e = record {
  aimed = both-aimed d goal cone lines given next held x asked p.aimed av p.low (let w = p.aimed.wide in omega (arith, xv, r, w)) e;
  count = p.count;
  leading = leading-on d goal cone lines given (gate asked (held ∷ x ∷ [])) best place held e p.leading;
  low = (let l = p.low in omega (arith, l));
  asked_low = omega (arith, av);
  within = r;
  was_left = p.are_left;
  was_kept = p.kept_left;
  kept_left = λ l g. (elim (has-append_cases left (negated x ∷ []) l g) [
    | inl y ↦ p.kept_left l y
    | inr y ↦ elim (has-cases (negated x) l [] y) [ inl q ↦ ap (λ (j : Literal). bool_at cone j.var) q ∙ ap (bool_at cone) xv ∙ inside | inr c ↦ absurd (cc) ]
  ]);
  are_left = record {
    once = once-end left (negated x) p.are_left.once (λ k g. let b = p.are_left.each k g in omega (arith, b, xv));
    each = λ l g. (elim (has-append_cases left (negated x ∷ []) l g) [
      | inl y ↦ (let b = p.are_left.each l y in omega (arith, b))
      | inr y ↦ elim (has-cases (negated x) l [] y) [ inl q ↦ (let v = ap (λ (j : Literal). j.var) q in omega (arith, v, xv)) | inr c ↦ absurd (cc) ]
    ]);
  };
  more_left = (let n = length-append left (negated x ∷ []) in omega (arith, n));
  held_holds = holds-on lines given (gate asked (held ∷ x ∷ [])) held left e p.holds;
  holds = λ set c g l k. (let b = gate-holds lines given held x asked set e c g in
      elim (has-append_cases left (negated x ∷ []) l k) [
        | inl y ↦ holds-on lines given (gate asked (held ∷ x ∷ [])) held left e p.holds set c b.0 l y
        | inr y ↦ elim (has-cases (negated x) l [] y) [ inl q ↦ ap (λ j. has set (negated j)) q ∙ ap (has set) (negated-twice x) ∙ b.1 | inr c' ↦ absurd (cc) ]
      ]);
  asked_is = both-value d lines given held x asked p.leading.value (λ s. slice_index_or s place false) e p.leading.held_is (row-value d lines place x r xv xo);
  were_leaves = p.leaves;
  leaves = λ s g z. elim (p.leaves s g z) [
    | inl y ↦ inl (any-append s left (negated x ∷ []) ∙ or-left (clause_true s left) (clause_true s (negated x ∷ [])) y)
    | inr y ↦ elim (bool-cases (slice_index_or s place false)) [
      | inl t ↦ inr (ap (λ b. b && slice_index_or s place false) y ∙ t)
      | inr f ↦ inl (any-append s left (negated x ∷ []) ∙ or-right (clause_true s left) (clause_true s (negated x ∷ [])) (out s f))
    ]
  ];
} where
  same : (b c : Bool) → c ≡ true → beq b c ≡ b
  same true c h = ap (beq true) h
  same false c h = ap (beq false) h

  out : (s : List Bool) → slice_index_or s place false ≡ false → (lit_true s (negated x) || false) ≡ true
  out s f =
      let v : lit_true s x ≡ false = same (slice_index_or s x.var false) x.on xo ∙ ap (λ i. slice_index_or s i false) xv ∙ f in
      ap (λ b. b || false) (lit_true-negated s x ∙ ap not v)

-- an attempt keeps it
pub tried-on : (d : Shared) (goal : ℕ) (cone : List Bool) (given new : List (List Literal)) (next : ℕ) (best : List Bool) (place : ℕ) (held asked : Literal) (left left' : List Literal) → IsTried d goal cone given next best place held asked left left'
    → IsGrown given new (Some asked) next → IsTried d goal cone new next best place held asked left left'
unfolding leading-on
tried-on d goal cone given new next best place held asked left left' t s =
    let more = s.more in
    record {
      aimed = s.aims d goal cone t.asked_low t.aimed;
      count = t.count;
      leading = leading-on d goal cone given new more best place held s.lines t.leading;
      low = t.low;
      asked_low = t.asked_low;
      within = t.within;
      was_left = t.was_left;
      was_kept = t.was_kept;
      kept_left = t.kept_left;
      are_left = t.are_left;
      more_left = t.more_left;
      held_holds = holds-on given new more held left s.lines t.held_holds;
      holds = holds-on given new more asked left' s.lines t.holds;
      asked_is = value-on d given new more asked (λ z. t.leading.value z && slice_index_or z place false) s.lines t.asked_is;
      were_leaves = t.were_leaves;
      leaves = t.leaves;
    }

-- the best choice keeps the place
pub placed-kept : (d : Shared) (goal : ℕ) (cone : List Bool) (lines : List (List Literal)) (next : ℕ) (best : List Bool) (place : ℕ) (held asked : Literal) (left left' : List Literal) → IsTried d goal cone lines next best place held asked left left' → slice_index_or best place false ≡ true
    → IsPlaced d goal cone lines next best (place + 1) asked left'
unfolding leading-kept
placed-kept d goal cone lines next best place held asked left left' t b = record {
  aimed = t.aimed;
  count = (let o = next-kept place best b in let n = t.count in let m = t.more_left in omega (arith, o, n, m));
  leading = leading-kept d goal cone lines best place held asked t.leading b t.asked_is;
  low = t.asked_low;
  are_left = t.are_left;
  kept_left = t.kept_left;
  holds = t.holds;
  leaves = t.leaves;
}

-- a model keeps it: it is the best from now on
pub placed-model : (d : Shared) (goal : ℕ) (cone : List Bool) (new : List (List Literal)) (next rows : ℕ) (best : List Bool) (place : ℕ) (held asked : Literal) (left left' : List Literal) (bools mid : List Bool) → rows ≡ d.rows → IsTried d goal cone new next best place held asked left left'
    → slice_index_or best place false ≡ false → (rows ≤ length bools) × IsModelled new (Some asked) (length bools) bools → mid ≡ take rows bools → IsPlaced d goal cone new next mid (place + 1) asked left'
unfolding leading-found
placed-model d goal cone new next rows best place held asked left left' bools mid e t b q k = record {
  aimed = t.aimed;
  count = (let w = and-both (t.leading.value mid) (slice_index_or mid place false) value in
      let o = next-kept place mid w.1 in
      let k = kept-agrees place mid best (t.leading.alike mid good w.0) in
      let n = t.count in
      let m = t.more_left in
      omega (arith, o, k, n, m));
  leading = leading-found d goal cone new best place held asked mid t.leading b t.asked_is good value;
  low = t.asked_low;
  are_left = t.are_left;
  kept_left = t.kept_left;
  holds = t.holds;
  leaves = λ s g z. t.leaves s g (let f = t.leading.few mid good (and-both (t.leading.value mid) (slice_index_or mid place false) value).0 in omega (arith, z, f));
} where
  good : IsSought d goal cone mid
  good = model-sought d goal cone new (Some asked) next (length bools) rows bools mid e q.0 k t.aimed q.1

  value : (t.leading.value mid && slice_index_or mid place false) ≡ true
  value =
      let V : List Bool → Type 0 = λ s. (t.leading.value s && slice_index_or s place false) ≡ true in
      let L : ℕ → Type 0 = λ n. n ≤ length bools in
      let at : take rows bools ≡ take d.rows bools = ap (λ n. take n bools) e in
      subst V (sym (k ∙ at)) (sym (t.asked_is (take d.rows bools) bools (take-length d.rows bools (subst L e q.0)) (take-index d.rows bools) q.1.model) ∙ q.1.assumed)

-- no choice keeps it
pub placed-out : (d : Shared) (goal : ℕ) (cone : List Bool) (lines : List (List Literal)) (next : ℕ) (best : List Bool) (place : ℕ) (held asked : Literal) (left left' : List Literal) → IsTried d goal cone lines next best place held asked left left' → slice_index_or best place false ≡ false
    → IsRefuted lines (Some asked) → IsPlaced d goal cone lines next best (place + 1) held left
unfolding leading-moved
placed-out d goal cone lines next best place held asked left left' t b r = record {
  aimed = t.aimed;
  count = next-left place best b ∙ t.count;
  leading = leading-moved d goal cone lines best place (place + 1) held t.leading (omega arith) (bare-one place best b) (λ s g v. bare-one place s (out s g v));
  low = t.low;
  are_left = record { once = t.was_left.once; each = λ l g. (let w = t.was_left.each l g in omega (arith, w)) };
  kept_left = t.was_kept;
  holds = t.held_holds;
  leaves = t.were_leaves;
} where
  out : (s : List Bool) → IsSought d goal cone s → t.leading.value s ≡ true → slice_index_or s place false ≡ false
  out s g v = elim (bool-cases (slice_index_or s place false)) [
    | inl y ↦ absurd (
        let x = t.aimed.complete s g in
        refuted-false lines (Some asked) x.0 r x.3 (t.asked_is s x.0 g.0 x.2 x.3 ∙ ap (λ z. z && slice_index_or s place false) v ∙ y))
    | inr y ↦ y
  ]

-- a place outside of the cone is left out by each
pub placed-outside : (d : Shared) (goal : ℕ) (cone : List Bool) (lines : List (List Literal)) (next : ℕ) (best : List Bool) (place : ℕ) (held : Literal) (left : List Literal) → IsPlaced d goal cone lines next best place held left → place < d.rows → bool_at cone place ≡ false
    → IsPlaced d goal cone lines next best (place + 1) held left
unfolding leading-moved
placed-outside d goal cone lines next best place held left p r o = record {
  aimed = p.aimed;
  count = next-left place best (p.leading.best_is.2 place r o) ∙ p.count;
  leading = leading-moved d goal cone lines best place (place + 1) held p.leading (omega arith) (bare-one place best (p.leading.best_is.2 place r o)) (λ s g v. bare-one place s (g.2 place r o));
  low = p.low;
  are_left = record { once = p.are_left.once; each = λ l g. (let w = p.are_left.each l g in omega (arith, w)) };
  kept_left = p.kept_left;
  holds = p.holds;
  leaves = p.leaves;
}

-- a met clause stays met with more literals
met-more : (set xs c : List Literal) → IsMet set c → IsMet set (xs ++ c)
met-more set xs c (inl m) = inl (m.0, has-append_right xs c m.0 m.1, m.2)
met-more set xs c (inr m) = inr (m.0, m.1, has-append_right xs c m.0 m.2, has-append_right xs c m.1 m.3, m.4, m.5, m.6)

abbrev lacking : List Literal → List Literal → List Literal
lacking lits clause = filter (λ l. not (has clause l)) lits

-- a literal of those that the clause does not have is one of them
lacking-has : (lits clause : List Literal) (l : Literal) → has (lacking lits clause) l ≡ true → (has lits l ≡ true) × (has clause l ≡ false)
lacking-has [] clause l h = absurd (cc)
lacking-has (x ∷ xs) clause l h = by (has clause x) refl h (lacking-has xs clause l) where
  by : (b : Bool) → has clause x ≡ b → has (cond (not b) (x ∷ lacking xs clause) (lacking xs clause)) l ≡ true → (has (lacking xs clause) l ≡ true → (has xs l ≡ true) × (has clause l ≡ false)) → (has (x ∷ xs) l ≡ true) × (has clause l ≡ false)
  by true e g f = let r = f g in (has-tail x l xs r.0, r.1)
  by false e g f = elim (has-cases x l (lacking xs clause) g) [
    | inl q ↦ (let H : Literal → Type 0 = λ k. (has (x ∷ xs) k ≡ true) × (has clause k ≡ false) in subst H (sym q) (has-head x xs, e))
    | inr g' ↦ (let r = f g' in (has-tail x l xs r.0, r.1))
  ]

lacking-once : (lits clause : List Literal) → HasNoRepeat lits → HasNoRepeat (lacking lits clause)
lacking-once [] clause h = tt
lacking-once (x ∷ xs) clause h = by (has clause x) (lacking-once xs clause h.1) where
  by : (b : Bool) → HasNoRepeat (lacking xs clause) → HasNoRepeat (cond (not b) (x ∷ lacking xs clause) (lacking xs clause))
  by true o = o
  by false o = ((λ k g. h.0 k (lacking-has xs clause k g).0), o)

-- where some of the literals is true the clause with them is
widened-true : (bools : List Bool) (lits clause : List Literal) → clause_true bools lits ≡ true → clause_true bools (widened lits clause) ≡ true
widened-true bools [] clause h = absurd (cc)
widened-true bools (x ∷ xs) clause h = by (has clause x) refl (widened-true bools xs clause) where
  among : (c : List Literal) → has c x ≡ true → lit_true bools x ≡ true → clause_true bools c ≡ true
  among [] g t = absurd (cc)
  among (y ∷ ys) g t = elim (has-cases y x ys g) [
    | inl q ↦ or-left (lit_true bools y) (clause_true bools ys) (ap (lit_true bools) (sym q) ∙ t)
    | inr r ↦ or-right (lit_true bools y) (clause_true bools ys) (among ys r t)
  ]

  by : (b : Bool) → has clause x ≡ b → (clause_true bools xs ≡ true → clause_true bools (lacking xs clause ++ clause) ≡ true) → clause_true bools (cond (not b) (x ∷ lacking xs clause) (lacking xs clause) ++ clause) ≡ true
  by true e f = elim (or-cases (lit_true bools x) (clause_true bools xs) h) [
    | inl y ↦ any-append bools (lacking xs clause) clause ∙ or-right (clause_true bools (lacking xs clause)) (clause_true bools clause) (among clause e y)
    | inr y ↦ f y
  ]
  by false e f = elim (or-cases (lit_true bools x) (clause_true bools xs) h) [
    | inl y ↦ or-left (lit_true bools x) (clause_true bools (lacking xs clause ++ clause)) y
    | inr y ↦ or-right (lit_true bools x) (clause_true bools (lacking xs clause ++ clause)) (f y)
  ]

once-append : (xs ys : List Literal) → HasNoRepeat xs → HasNoRepeat ys → ((k l : Literal) → has xs k ≡ true → has ys l ≡ true → l.var ≡ k.var → ⊥) → HasNoRepeat (xs ++ ys)
once-append [] ys h g a = g
once-append (x ∷ xs) ys h g a = (
  (λ k m e. elim (has-append_cases xs ys k m) [ inl y ↦ h.0 k y e | inr y ↦ a x k (has-head x xs) y e ]),
  once-append xs ys h.1 g (λ k l m. a k l (has-tail x k xs m)),
)

-- two literals of one variable are the same or negations of each other
one-variable : (k l : Literal) → l.var ≡ k.var → (l ≡ k) ⊎ (l ≡ negated k)
one-variable k l v = by l.on k.on refl refl where
  by : (a b : Bool) → l.on ≡ a → k.on ≡ b → (l ≡ k) ⊎ (l ≡ negated k)
  by true true p q = inl (λ i. record { var = v i; on = (p ∙ sym q) i })
  by false false p q = inl (λ i. record { var = v i; on = (p ∙ sym q) i })
  by true false p q = inr (λ i. record { var = v i; on = (p ∙ ap not (sym q)) i })
  by false true p q = inr (λ i. record { var = v i; on = (p ∙ ap not (sym q)) i })

-- a fresh clause with rows that are held stays fresh
fresh-widened : (lines before : List (List Literal)) (asked : Literal) (left c : List Literal) → HasNoRepeat left → Holds lines asked left → Fresh lines (Some asked) c
    → ((set : List Literal) → Closed lines set → has set asked ≡ true → EachLine (IsMet set) before) → Fresh before None (widened left c)
fresh-widened lines before asked left c once holds x met = record {
  front = lacking left c ++ x.front;
  last = x.last;
  parts = ap (λ ls. lacking left c ++ ls) x.parts ∙ sym (append_assoc (lacking left c) x.front (x.last ∷ []));
  once = once-append (lacking left c) c (lacking-once left c once) x.once apart;
  set = x.set;
  closed = record { consistent = x.closed.consistent; met = met x.set x.closed x.assumed };
  assumed = tt;
  denied = λ l g. elim (has-append_cases (lacking left c) x.front l g) [
    | inl y ↦ holds x.set x.closed x.assumed l (lacking-has left c l y).0
    | inr y ↦ x.denied l y
  ];
  unset = x.unset;
  unset_negated = x.unset_negated;
} where
  apart : (k l : Literal) → has (lacking left c) k ≡ true → has c l ≡ true → l.var ≡ k.var → ⊥
  apart k l g h v =
      let r = lacking-has left c k g in
      let d = holds x.set x.closed x.assumed k r.0 in
      elim (one-variable k l v) [
        | inl q ↦ clash (ap (has c) (sym q) ∙ h) r.1
        | inr q ↦ (let P : List Literal → Type 0 = λ ls. has ls l ≡ true in
            elim (has-append_cases x.front (x.last ∷ []) l (subst P x.parts h)) [
              | inl y ↦ clash (sym (ap (λ j. has x.set (negated j)) q ∙ ap (has x.set) (negated-twice k)) ∙ x.denied l y) (ap (has x.set) (sym (negated-twice k)) ∙ x.closed.consistent (negated k) d)
              | inr y ↦ elim (has-cases x.last l [] y) [
                | inl z ↦ clash d (ap (has x.set) (sym q ∙ z) ∙ x.unset)
                | inr n ↦ absurd (cc)
              ]
            ])
      ]

all-fresh : (lines before : List (List Literal)) (asked : Literal) (left : List Literal) (cs : List (List Literal)) → HasNoRepeat left → Holds lines asked left
    → ((set : List Literal) → Closed lines set → has set asked ≡ true → EachLine (IsMet set) before) → AreFresh lines (Some asked) cs → AreFreshAlone before (map (widened left) cs)
all-fresh lines before asked left [] once holds h f = tt
all-fresh lines before asked left (c ∷ cs) once holds h f = (
  fresh-widened lines before asked left c once holds f.0 h,
  all-fresh (lines ++ line_of (Some asked) c ∷ []) (before ++ widened left c ∷ []) asked left cs once
      (holds-on lines (lines ++ line_of (Some asked) c ∷ []) (line_of (Some asked) c ∷ []) asked left refl holds)
      (λ set k a. each-append (IsMet set) before (widened left c ∷ []) (h set (closed-front lines (line_of (Some asked) c ∷ []) set k) a)
      (each-cons (IsMet set) (widened left c) [] (met-more set (lacking left c) c (met-without set (Some asked) c k.consistent a (each-head (IsMet set) (line_of (Some asked) c) [] (each-back (IsMet set) lines (line_of (Some asked) c ∷ []) k.met)))) (each-none (IsMet set))))
      f.1,
)

length-map : (f : List Literal → List Literal) (cs : List (List Literal)) → length (map f cs) ≡ length cs
length-map f [] = refl
length-map f (c ∷ cs) = let h = length-map f cs in grind (arith, h)

each-mapped : (P : List Literal → Type 0) (f : List Literal → List Literal) (cs : List (List Literal)) → EachLine (λ c. P (f c)) cs → EachLine P (map f cs)
each-mapped P f [] h = each-none P
each-mapped P f (c ∷ cs) h = each-cons P (f c) (map f cs) (each-head (λ x. P (f x)) c cs h) (each-mapped P f cs (each-tail (λ x. P (f x)) c cs h))

-- no clause with rows that are held has the literal that a row outside of the cone is not kept
inside-widened : (d : Shared) (cone : List Bool) (left : List Literal) (cs : List (List Literal)) → AreKept cone left → AreInside d.rows cone cs → AreInside d.rows cone (map (widened left) cs)
inside-widened d cone left cs k h =
    each-mapped (λ c. (v : ℕ) → v < d.rows → bool_at cone v ≡ false → has c (not_kept v) ≡ false) (widened left) cs (λ i l v b o. without (line_at cs i) v (h i l v b o) o) where
      without : (c : List Literal) (v : ℕ) → has c (not_kept v) ≡ false → bool_at cone v ≡ false → has (widened left c) (not_kept v) ≡ false
      without c v n o = elim (bool-cases (has (widened left c) (not_kept v))) [
        | inl y ↦ absurd (elim (has-append_cases (lacking left c) c (not_kept v) y) [
          | inl z ↦ clash (k (not_kept v) (lacking-has left c (not_kept v) z).0) o
          | inr z ↦ clash z n
        ])
        | inr y ↦ y
      ]

-- the clauses of a spent budget with the rows that are held
spent-tried : (d : Shared) (goal : ℕ) (cone : List Bool) (given new : List (List Literal)) (next rows : ℕ) (best : List Bool) (place : ℕ) (held asked : Literal) (left left' : List Literal) (b : ℕ) (list : List (List Literal)) → rows ≡ d.rows
    → IsTried d goal cone given next best place held asked left left' → KeepsModels given new → IsSpent given new (Some asked) rows (variables given (Some asked) rows) b list → IsSpentWithin d goal cone b (Some best) true (map (widened left') list)
spent-tried d goal cone given new next rows best place held asked left left' b list e t keeps s = (
  record {
    small = subst S e (s.small.1 (subst D (sym e) det));
    best_is = t.leading.best_is;
    least_is = λ y. t.leading.fewest;
    spent = record {
      all = length-map (widened left') list ∙ s.all;
      each = each-mapped (IsNogood d.rows (IsSought d goal cone) (Some best) true) (widened left') list (λ i l. record {
        some = (let m = fresh-some given (Some asked) list s.fresh i l in let a = length-append (lacking left' (line_at list i)) (line_at list i) in omega (arith, m, a));
        below = λ k h. elim (has-append_cases (lacking left' (line_at list i)) (line_at list i) k h) [
          | inl y ↦ (let v = t.are_left.each k (lacking-has left' (line_at list i) k y).0 in let w = t.within in omega (arith, v, w))
          | inr y ↦ low i l k y
        ];
        holds = λ keep g few. holds keep g few i l;
      });
      fresh = alone;
      apart = λ i j x l. fresh-apart [] (map (widened left') list) alone i j x (omega arith) l;
    };
  },
  inside-widened d cone left' list t.kept_left (inside-fresh d goal cone given next (Some asked) list t.aimed s.fresh),
) where
  wide : d.rows ≤ next
  wide = t.aimed.wide

  D : ℕ → Type 0
  D n = Determined given n (variables given (Some asked) rows)

  S : ℕ → Type 0
  S n = b < 2 ^ n

  B : ℕ → Type 0
  B n = AreBelow n list

  det : Determined given d.rows (variables given (Some asked) rows)
  det = determined-less given d.rows (variables given (Some asked) rows) next (variables-le next given (Some asked) rows (let w = wide in omega (arith, e, w)) t.aimed.below t.asked_low) t.aimed.determined

  low : AreBelow d.rows list
  low = subst B e (s.below.1 (subst D (sym e) det))

  alone : AreFreshAlone [] (map (widened left') list)
  alone = all-fresh given [] asked left' list t.are_left.once t.holds (λ set k a. each-none (IsMet set)) s.fresh

  holds : (keep : List Bool) → IsSought d goal cone keep → size keep ≤ size best → (i : ℕ) → i < length list → clause_true keep (widened left' (line_at list i)) ≡ true
  holds keep g few i l = elim (t.leaves keep g few) [
    | inl y ↦ widened-true keep left' (line_at list i) y
    | inr y ↦ (
        let x = t.aimed.complete keep g in
        let M : List (List Literal) → Type 0 = λ ls. IsModel ls x.0 in
        let lines_true = each-line (IsTrueAt x.0) (Some asked) list (each-back (IsTrueAt x.0) given (map (line_of (Some asked)) list) (subst M s.lines (keeps x.0 x.3))) i l in
        let yes = t.asked_is keep x.0 g.0 x.2 x.3 ∙ y in
        let c = clause-agrees d.rows keep x.0 (line_at list i) x.2 (low i l) ∙ line-true x.0 (Some asked) (line_at list i) yes lines_true in
        any-append keep (lacking left' (line_at list i)) (line_at list i) ∙ or-right (clause_true keep (lacking left' (line_at list i))) (clause_true keep (line_at list i)) c)
  ]

-- what is known where the budget is spent
pub spent-placed : (d : Shared) (goal : ℕ) (cone : List Bool) (given new : List (List Literal)) (next n rows : ℕ) (best : List Bool) (place : ℕ) (held asked : Literal) (left left' : List Literal) (budget : Option ℕ) (list nogoods : List (List Literal)) → n ≡ next → rows ≡ d.rows
    → IsTried d goal cone given next best place held asked left left' → IsSomeAnd budget (λ b. IsGivenUp given new (Some asked) n rows b list) → nogoods ≡ map (widened left') list
    → IsSomeAnd budget (λ b. IsSpentWithin d goal cone b (Some best) true nogoods)
spent-placed d goal cone given new next n rows best place held asked left left' None list nogoods q e t s w = absurd s
spent-placed d goal cone given new next n rows best place held asked left left' (Some b) list nogoods q e t s w =
    let G : ℕ → Type 0 = λ k. IsGrown given s.mid (Some asked) k in
    let B : List (List Literal) → Type 0 = λ ls. IsSpentWithin d goal cone b (Some best) true ls in
    subst B (sym w) (spent-tried d goal cone s.mid new next rows best place held asked left left' b list e (tried-on d goal cone given s.mid next best place held asked left left' t (subst G q s.grown)) s.keeps s.spent)
