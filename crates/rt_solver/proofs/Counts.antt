-- Marks, and how many steps have one.
use Rattle.std.proofs.Common.{◌≡◌, ◌≢◌, ℕ, zero, suc, ◌+◌, ◌<◌, ◌≤◌, Bool, true, false, cond, nat_eq, eqb, List, [], ◌∷◌, ◌++◌, length, drop, refl, sym, ap, subst, ◌∙◌, ◌⊎◌, inl, inr, None, arith, rules, length-set, get_or-set_other, get_or-set_same, slice_set}
use Rattle.std.proofs.lemmas.List.Folds.{list_any-append}
use Rattle.rt_clause.proofs.Bools.{bool-cases, or-cases, or-right, or-left}
use Rattle.rt_store.specs.declared.trail.Step.{Step}
use Rattle.rt_store.specs.Trail.{value_in, IsApart}
use Rattle.rt_solver.specs.Marking.{stands, mark_at, steps_marked, IsMarking}
use Rattle.rt_store.proofs.Number.{none-apart}

pub count-older : (marks : List Bool) (s : Step) (t : List Step) → steps_marked marks t ≤ steps_marked marks (s ∷ t)
count-older marks s t = elim (bool-cases (mark_at marks s.lit.var)) [ inl y ↦ rw y (omega arith) | inr n ↦ rw n (omega arith) ]

pub count-marked : (marks : List Bool) (s : Step) (t : List Step) → mark_at marks s.lit.var ≡ true → steps_marked marks (s ∷ t) ≡ steps_marked marks t + 1
count-marked marks s t h = ap (λ b. cond b (steps_marked marks t + 1) (steps_marked marks t)) h

-- an older part has no more
pub count-drop : (marks : List Bool) (n k : ℕ) (t : List Step) → n ≤ k → steps_marked marks (drop k t) ≤ steps_marked marks (drop n t)
count-drop marks zero zero t b = omega arith
count-drop marks zero (suc k) [] b = omega arith
count-drop marks zero (suc k) (s ∷ t) b = let r = count-drop marks zero k t (omega arith) in let o = count-older marks s t in omega (arith, r, o)
count-drop marks (suc n) zero t b = absurd (omega arith)
count-drop marks (suc n) (suc k) [] b = omega arith
count-drop marks (suc n) (suc k) (s ∷ t) b = count-drop marks n k t (omega arith)

pub count-none : (marks : List Bool) (t : List Step) → ((v : ℕ) → mark_at marks v ≡ false) → steps_marked marks t ≡ 0
count-none marks [] h = refl
count-none marks (s ∷ t) h = ap (λ b. cond b (steps_marked marks t + 1) (steps_marked marks t)) (h s.lit.var) ∙ count-none marks t h

mark-other : (marks : List Bool) (v w : ℕ) → nat_eq w v ≡ false → mark_at (slice_set marks v true) w ≡ mark_at marks w
mark-other marks v w n = let q : w ≢ v = (λ z. let k : nat_eq w v ≡ true = search rules in cc) in get_or-set_other marks v w true false q

-- one more mark, of a variable that no step has
count-absent : (marks : List Bool) (v : ℕ) (t : List Step) → value_in t v ≡ None → steps_marked (slice_set marks v true) t ≡ steps_marked marks t
count-absent marks v [] h = refl
count-absent marks v (s ∷ t) h =
    let p = none-apart s t v h in
    let r = count-absent marks v t p.1 in
    let q = mark-other marks v s.lit.var p.0 in
    λ i. cond (q i) (r i + 1) (r i)

-- or of one that at most one step has
pub count-set : (marks : List Bool) (v n : ℕ) (t : List Step) → IsApart n t → steps_marked (slice_set marks v true) t ≤ steps_marked marks t + 1
count-set marks v n [] a = omega arith
count-set marks v n (s ∷ t) a = elim (bool-cases (nat_eq s.lit.var v)) [
  | inl y ↦ (let e : s.lit.var ≡ v = search rules in
      let r : steps_marked (slice_set marks v true) t ≡ steps_marked marks t = count-absent marks v t (let P : ℕ → Type 0 = λ w. value_in t w ≡ None in subst P e a.1) in
      let o = count-older marks s t in
      elim (bool-cases (mark_at (slice_set marks v true) s.lit.var)) [ inl b ↦ rw b (omega (arith, r, o)) | inr b ↦ rw b (omega (arith, r, o)) ])
  | inr y ↦ (let q = mark-other marks v s.lit.var y in
      let r = count-set marks v n t a.2 in
      let f : steps_marked (slice_set marks v true) (s ∷ t) ≡ cond (mark_at marks s.lit.var) (steps_marked (slice_set marks v true) t + 1) (steps_marked (slice_set marks v true) t) = ap (λ b. cond b (steps_marked (slice_set marks v true) t + 1) (steps_marked (slice_set marks v true) t)) q in
      elim (bool-cases (mark_at marks s.lit.var)) [ inl b ↦ (let g = rw b at f in rw b (omega (arith, g, r))) | inr b ↦ (let g = rw b at f in rw b (omega (arith, g, r))) ])
]

-- the list of the marked ones
eqb-same : (v w : ℕ) → eqb v w ≡ true → v ≡ w
eqb-same v w h = search rules

stands-cases : (w v : ℕ) (ws : List ℕ) → stands (w ∷ ws) v ≡ true → (v ≡ w) ⊎ (stands ws v ≡ true)
stands-cases w v ws h = elim (or-cases (eqb v w) (stands ws v) h) [ inl e ↦ inl (eqb-same v w e) | inr r ↦ inr r ]

stands-head : (w : ℕ) (ws : List ℕ) → stands (w ∷ ws) w ≡ true
stands-head w ws = let e : eqb w w ≡ true = search rules in rw e refl

pub stands-push : (ws : List ℕ) (v w : ℕ) → stands (ws ++ v ∷ []) w ≡ true → (stands ws w ≡ true) ⊎ (w ≡ v)
stands-push ws v w h = elim (or-cases (stands ws w) (stands (v ∷ []) w) (sym (list_any-append (eqb w) ws (v ∷ [])) ∙ h)) [
  | inl a ↦ inl a
  | inr b ↦ elim (stands-cases v w [] b) [ inl e ↦ inr e | inr r ↦ absurd (cc) ]
]

stands-kept : (ws : List ℕ) (v w : ℕ) → stands ws w ≡ true → stands (ws ++ v ∷ []) w ≡ true
stands-kept ws v w h = list_any-append (eqb w) ws (v ∷ []) ∙ or-left (stands ws w) (stands (v ∷ []) w) h

stands-last : (ws : List ℕ) (v : ℕ) → stands (ws ++ v ∷ []) v ≡ true
stands-last ws v = list_any-append (eqb v) ws (v ∷ []) ∙ or-right (stands ws v) (stands (v ∷ []) v) (stands-head v [])

longer : (ws : List ℕ) (w : ℕ) → length (ws ++ w ∷ []) ≡ length ws + 1
longer [] w = refl
longer (x ∷ ws) w = let r = longer ws w in omega (arith, r)

-- the last of the list
pub marking-last : (marks : List Bool) (marked less : List ℕ) (v due : ℕ) → IsMarking marks marked due → marked ≡ less ++ v ∷ [] → (v < length marks) × (length less < length marked)
marking-last marks marked less v due h e =
    let S : List ℕ → Type 0 = λ ws. stands ws v ≡ true in
    (h.within v (subst S (sym e) (stands-last less v)), (let l = ap length e in let k = longer less v in omega (arith, l, k)))

pub marking-take : (marks : List Bool) (marked less : List ℕ) (v due : ℕ) → IsMarking marks marked due → marked ≡ less ++ v ∷ [] → IsMarking (slice_set marks v false) less 0
marking-take marks marked less v due h e =
    let P : List ℕ → Type 0 = λ ws. IsMarking marks ws due in
    let g = subst P e h in
    let b : v < length marks = g.within v (stands-last less v) in
    record {
      listed = λ w m. elim (bool-cases (nat_eq w v)) [
        | inl y ↦ absurd (let q : w ≡ v = search rules in let n : mark_at (slice_set marks v false) w ≡ false = ap (mark_at (slice_set marks v false)) q ∙ get_or-set_same marks v false false b in cc)
        | inr n ↦ (let q : w ≢ v = (λ z. let k : nat_eq w v ≡ true = search rules in cc) in
            elim (stands-push less v w (g.listed w (sym (get_or-set_other marks v w false false q) ∙ m))) [ inl a ↦ a | inr z ↦ absurd (q z) ])
      ];
      within = λ w s. let l : length (slice_set marks v false) ≡ length marks = length-set marks v false in let x = g.within w (stands-kept less v w s) in omega (arith, x, l);
      few = omega arith;
    }
