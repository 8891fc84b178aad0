-- The steps at which the walk back stops, and those that it passes.
use Rattle.std.proofs.Common.{◌≡◌, ◌≢◌, ℕ, zero, suc, ◌+◌, ◌-◌, ◌<◌, ◌≤◌, Bool, true, false, nat_eq, List, [], ◌∷◌, length, drop, get_or, sym, ap, subst, ◌∙◌, inl, inr, Option, arith, rules, drop-cons}
use Rattle.rt_clause.specs.Literal.{Literal}
use Rattle.rt_clause.proofs.Bools.{bool-cases}
use Rattle.rt_store.specs.declared.trail.Step.{Step}
use Rattle.rt_solver.specs.Marking.{Marked, marked_by, marked_steps, steps_marked}
use Rattle.rt_store.specs.Trail.{oldest}
use Rattle.rt_solver.specs.Analysis.{EachStep, IsPlain, IsStop, IsStopAt, IsStopUnder, IsWalkedBy}
use Rattle.rt_solver.proofs.Counts.{count-drop, count-marked}
use Rattle.rt_solver.proofs.Walks.{visit-unmarked}

same-step : (a b : Step) (t x y : List Step) → t ≡ a ∷ x → t ≡ b ∷ y → a ≡ b
same-step a b t x y e f = let q = sym e ∙ f in cc

step-at : (t : List Step) (i : ℕ) → i < length t → (s : Step) × (oldest (i + 1) t ≡ s ∷ oldest i t)
step-at [] i h = absurd (omega (arith, h))
step-at (x ∷ xs) i h =
    let j = length (x ∷ xs) - (i + 1) in
    let b : j < length (x ∷ xs) = omega (arith, h) in
    let k : suc j ≡ length (x ∷ xs) - i = omega (arith, h) in
    (get_or (x ∷ xs) j x, drop-cons (x ∷ xs) j x b ∙ ap (λ n. get_or (x ∷ xs) j x ∷ drop n (x ∷ xs)) k)

-- what each step keeps, many keep
pass-more : (P : List Step → Type 0) (Q : Step → Type 0) (t : List Step) (low more : ℕ) → low + more ≤ length t → ((s : Step) (rest : List Step) → Q s → P (s ∷ rest) → P rest)
    → EachStep Q t low (low + more) → P (oldest (low + more) t) → P (oldest low t)
pass-more P Q t low zero b f q p = let e : low + 0 ≡ low = omega arith in let R : ℕ → Type 0 = λ n. P (oldest n t) in subst R e p
pass-more P Q t low (suc more) b f q p =
    let n = low + more in
    let e : low + suc more ≡ n + 1 = omega arith in
    let R : ℕ → Type 0 = λ k. P (oldest k t) in
    let s = step-at t n (omega (arith, b)) in
    pass-more P Q t low more (omega (arith, b)) f (λ k r a h g. q k r a (omega (arith, h)) g) (f s.0 (oldest n t) (q n s.0 (omega arith) (omega arith) s.1) (subst P s.1 (subst R e p)))

pub pass-each : (P : List Step → Type 0) (Q : Step → Type 0) (t : List Step) (low high : ℕ) → low ≤ high → high ≤ length t → ((s : Step) (rest : List Step) → Q s → P (s ∷ rest) → P rest)
    → EachStep Q t low high → P (oldest high t) → P (oldest low t)
pass-each P Q t low high b l f q p =
    let e : low + (high - low) ≡ high = omega (arith, b) in
    let R : ℕ → Type 0 = λ n. P (oldest n t) in
    pass-more P Q t low (high - low) (omega (arith, l, e)) f (λ k s a h g. q k s a (omega (arith, h, e)) g) (subst R (sym e) p)

pub walk-passed : (lines : List (List Literal)) (assume : Option Literal) (vars : ℕ) (trail : List Step) (low high : ℕ) (marks : Marked) (found : List Literal) (hints : List ℕ)
    → low ≤ high → high ≤ length trail → EachStep (λ s. marked_by marks s.lit.var ≡ false) trail low high → IsWalkedBy lines assume vars (oldest high trail) marks found hints → IsWalkedBy lines assume vars (oldest low trail) marks found hints
walk-passed lines assume vars trail low high marks found hints b l u w =
    pass-each (λ t. IsWalkedBy lines assume vars t marks found hints) (λ s. marked_by marks s.lit.var ≡ false) trail low high b l (λ s rest n h. visit-unmarked lines assume vars rest s marks found hints n h) u w

-- down to a stop
pub walk-stopped : (lines : List (List Literal)) (assume : Option Literal) (vars : ℕ) (trail : List Step) (decisions : Bool) (place stop : ℕ) (marks : Marked) (found : List Literal) (hints : List ℕ)
    → place ≤ length trail → IsStopUnder trail (marked_by marks) decisions place stop → IsWalkedBy lines assume vars (oldest place trail) marks found hints → IsWalkedBy lines assume vars (oldest (stop + 1) trail) marks found hints
walk-stopped lines assume vars trail decisions place stop marks found hints l h w =
    walk-passed lines assume vars trail (stop + 1) place marks found hints (let o = h.order in omega (arith, o)) l (λ k s a b e. (h.passed k s a b e).0) w

-- one more step
pub each-more : (P : Step → Type 0) (t : List Step) (low high : ℕ) (s : Step) → oldest (low + 1) t ≡ s ∷ oldest low t → P s → EachStep P t (low + 1) high → EachStep P t low high
each-more P t low high s e p h k r a b g = elim (bool-cases (nat_eq k low)) [
  | inl y ↦ (let q : k ≡ low = search rules in
      let f : oldest (low + 1) t ≡ r ∷ oldest low t = (let R : ℕ → Type 0 = λ n. oldest (n + 1) t ≡ r ∷ oldest n t in subst R q g) in
      subst P (same-step s r (oldest (low + 1) t) (oldest low t) (oldest low t) e f) p)
  | inr n ↦ (let q : k ≢ low = (λ z. let k : nat_eq k low ≡ true = search rules in cc) in h k r (omega (arith, a, q)) b g)
]

pub stop-at : (trail : List Step) (marked : ℕ → Bool) (decisions : Bool) (place : ℕ) (s : Step) → oldest (place + 1) trail ≡ s ∷ oldest place trail → IsStop marked decisions s → IsStopAt trail marked decisions place
stop-at trail marked decisions place s e h r f =
    let S : Step → Type 0 = IsStop marked decisions in
    subst S (same-step s r (oldest (place + 1) trail) (oldest place trail) (oldest place trail) e f) h

-- where no mark is due, no step is marked
pub none-due : (marks : Marked) (trail : List Step) (n place : ℕ) → marks.due ≡ 0 → (n ≡ 1 → ⊥) → marked_steps marks (oldest place trail) ≤ marks.due → EachStep (IsPlain (marked_by marks) (nat_eq n 1)) trail 0 place
none-due marks trail n place d o c k s a b e = (unmarked, λ t. absurd (let q : n ≡ 1 = search rules in o q)) where
  unmarked : marked_by marks s.lit.var ≡ false
  unmarked = elim (bool-cases (marked_by marks s.lit.var)) [
    | inl m ↦ absurd (let n = count-drop marks.marks (length trail - place) (length trail - (k + 1)) trail (omega (arith, b)) in
        let x = ap (steps_marked marks.marks) e in
        let y = count-marked marks.marks s (oldest k trail) m in
        omega (arith, n, x, y, c, d))
    | inr n ↦ n
  ]

-- while no literal is found, only marked steps are stops
pub stop-marked : (marked : ℕ → Bool) (found : List Literal) (s : Step) → found ≡ [] → IsStop marked (nat_eq (length found) 1) s → marked s.lit.var ≡ true
stop-marked marked found s n h = elim h [
  | inl m ↦ m
  | inr d ↦ absurd (let q : nat_eq (length found) 1 ≡ false = ap (λ (ls : List Literal). nat_eq (length ls) 1) n in let t = d.0 in cc)
]
