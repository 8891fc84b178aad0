-- Marks that are set one by one.
use Rattle.std.proofs.Common.{◌≡◌, ℕ, zero, suc, ◌+◌, ◌<◌, ◌≤◌, nat_eq, Bool, true, false, List, [], ◌∷◌, ◌++◌, length, take, get_or, replicate, slice_set, slice_get, Some, refl, sym, subst, ap, arith, rules, ◌∙◌, ◌⊎◌, inl, inr}
use Rattle.std.proofs.lemmas.List.{take_more}
use Rattle.std.proofs.lemmas.List.Elements.{All-append}
use Rattle.std.specs.List.{All as Each}
use Rattle.std.proofs.lemmas.Bool.{cases_Bool}
use Rattle.rt_formula.specs.declared.entry.Entry.{Entry}
use Rattle.rt_formula.specs.declared.entry.Entry.TheVariants.{Row}
use Rattle.rt_formula.specs.Shared.{Shared, children, named_rows}
use Rattle.rt_formula.specs.Under.{is_marked, MarksStay, SameFrom, AreClosedFrom, AreClosed, AreUnder, RowStands, StandsUnder}

pub set-there : (marks : List Bool) (n : ℕ) → n < length marks → is_marked (slice_set marks n true) n ≡ true
set-there [] n h = absurd (omega arith)
set-there (m ∷ marks) zero h = refl
set-there (m ∷ marks) (suc n) h = set-there marks n (omega arith)

pub set-stays : (marks : List Bool) (n : ℕ) → MarksStay marks (slice_set marks n true)
set-stays [] n k h = h
set-stays (m ∷ marks) zero zero h = refl
set-stays (m ∷ marks) zero (suc k) h = h
set-stays (m ∷ marks) (suc n) zero h = h
set-stays (m ∷ marks) (suc n) (suc k) h = set-stays marks n k h

pub set-cases : (marks : List Bool) (n k : ℕ) → is_marked (slice_set marks n true) k ≡ true → (is_marked marks k ≡ true) ⊎ (n ≡ k)
set-cases [] n k h = inl h
set-cases (m ∷ marks) zero zero h = inr refl
set-cases (m ∷ marks) zero (suc k) h = inl h
set-cases (m ∷ marks) (suc n) zero h = inl h
set-cases (m ∷ marks) (suc n) (suc k) h = elim (set-cases marks n k h) [ inl a ↦ inl a | inr e ↦ inr (ap suc e) ]

-- no other mark is set
pub set-only : (marks : List Bool) (n : ℕ) (others : List Bool) → MarksStay marks others → is_marked others n ≡ true → MarksStay (slice_set marks n true) others
set-only marks n others s m k h = elim (set-cases marks n k h) [ inl o ↦ s k o | inr e ↦ ap (is_marked others) (sym e) ∙ m ]

pub none-marked : (n k : ℕ) → is_marked (replicate n false) k ≡ true → ⊥
none-marked zero k h = cc
none-marked (suc n) zero h = cc
none-marked (suc n) (suc k) h = none-marked n k h

pub marked-long : (marks : List Bool) (k : ℕ) → is_marked marks k ≡ true → k < length marks
marked-long [] k h = absurd (cc)
marked-long (m ∷ marks) zero h = omega arith
marked-long (m ∷ marks) (suc k) h = let r = marked-long marks k h in omega (arith, r)

pub goal-stands : (d : Shared) (goal : ℕ) → StandsUnder d goal goal
goal-stands d goal marks g c = g

-- what a node under the goal names is under it
pub child-stands : (d : Shared) (goal n : ℕ) (e : Entry) → slice_get d.entries n ≡ Some e → StandsUnder d goal n → Each (λ c. StandsUnder d goal c) (children e)
child-stands d goal n e f s i x b marks g c = c n e f (s marks g c) i x b

pub each-stays : (old new : List Bool) → MarksStay old new → (of : List ℕ) → Each (λ k. is_marked old k ≡ true) of → Each (λ k. is_marked new k ≡ true) of
each-stays old new s of h i d b = s _ (h i d b)

-- one more of a list
pub each-more : (P : ℕ → Type 0) (xs : List ℕ) (i a : ℕ) → i < length xs → a ≡ get_or xs i a → Each P (take i xs) → P a → Each P (take (i + 1) xs)
each-more P xs i a h e old new =
    let E : List ℕ → Type 0 = Each P in
    subst E (sym (take_more xs i a h ∙ ap (λ v. take i xs ++ v ∷ []) (sym e))) (All-append P (take i xs) (a ∷ []) old one) where
      one : (k d : ℕ) → k < length (a ∷ []) → P (get_or (a ∷ []) k d)
      one zero d g = new
      one (suc k) d g = absurd (omega arith)

All-left : (P : ℕ → Type 0) (xs ys : List ℕ) → Each P (xs ++ ys) → Each P xs
All-left P [] ys h i d b = absurd (omega (arith, b))
All-left P (x ∷ xs) ys h zero d b = h 0 d (omega arith)
All-left P (x ∷ xs) ys h (suc i) d b = All-left P xs ys (λ j e c. h (suc j) e (omega (arith, c))) i d (omega (arith, b))

All-right : (P : ℕ → Type 0) (xs ys : List ℕ) → Each P (xs ++ ys) → Each P ys
All-right P [] ys h = h
All-right P (x ∷ xs) ys h = All-right P xs ys (λ j e c. h (suc j) e (omega (arith, c)))

-- those before it
pub each-less : (P : ℕ → Type 0) (xs : List ℕ) (i a : ℕ) → i < length xs → a ≡ get_or xs i a → Each P (take (i + 1) xs) → Each P (take i xs)
each-less P xs i a h e w =
    let E : List ℕ → Type 0 = Each P in
    All-left P (take i xs) (a ∷ []) (subst E (take_more xs i a h ∙ ap (λ v. take i xs ++ v ∷ []) (sym e)) w)

pub last-of : (P : ℕ → Type 0) (xs : List ℕ) (i a : ℕ) → i < length xs → a ≡ get_or xs i a → Each P (take (i + 1) xs) → P a
last-of P xs i a h e w =
    let E : List ℕ → Type 0 = Each P in
    All-right P (take i xs) (a ∷ []) (subst E (take_more xs i a h ∙ ap (λ v. take i xs ++ v ∷ []) (sym e)) w) 0 a (omega arith)

-- one more node is passed, whose children are marked now, or which is not marked
pub closed-marked : (d : Shared) (goal at : ℕ) (e : Entry) (old new : List Bool) → slice_get d.entries at ≡ Some e → Each (λ k. k < at) (children e) → SameFrom at old new → MarksStay old new
    → Each (λ k. is_marked new k ≡ true) (children e) → AreClosedFrom d goal (at + 1) old → AreClosedFrom d goal at new
closed-marked d goal at e old new g below same stay set closed k x low high f m = elim (cases_Bool (nat_eq k at)) [
  | inl y ↦ (let q : k ≡ at = search rules in
      let P : ℕ → Type 0 = λ n. slice_get d.entries n ≡ Some x in
      let r : e ≡ x = some-same e x (sym g ∙ subst P q f) in
      let Q : Entry → Type 0 = λ z. Each (λ c. is_marked new c ≡ true) (children z) in
      subst Q r set)
  | inr n ↦ (let q : at + 1 ≤ k = above k at low n in each-stays old new stay (children x) (closed k x q high f (sym (same k low) ∙ m)))
] where
  some-same : (a b : Entry) → Some a ≡ Some b → a ≡ b
  some-same a b h = cc

  above : (a b : ℕ) → b ≤ a → nat_eq a b ≡ false → b + 1 ≤ a
  above a b h f = search (arith, rules)

pub closed-unmarked : (d : Shared) (goal at : ℕ) (marks : List Bool) → is_marked marks at ≡ false → AreClosedFrom d goal (at + 1) marks → AreClosedFrom d goal at marks
closed-unmarked d goal at marks u closed k x low high f m = elim (cases_Bool (nat_eq k at)) [
  | inl y ↦ (let q : k ≡ at = search rules in let r = ap (is_marked marks) q in absurd (cc))
  | inr n ↦ closed k x (above k at low n) high f m
] where
  above : (a b : ℕ) → b ≤ a → nat_eq a b ≡ false → b + 1 ≤ a
  above a b h f = search (arith, rules)

-- the marks of the nodes under a goal are a set of nodes with what they name
pub closed-all : (d : Shared) (goal : ℕ) (marks : List Bool) → AreUnder d goal marks → AreClosed d marks
closed-all d goal marks u k e f m = let l = u.long in let b = marked-long marks k m in u.closed k e (omega arith) (omega (arith, l, b)) f m

-- the rows that the marked nodes from a place on name are marked
abbrev pub AreNamed : Shared → List Bool → ℕ → List Bool → Type 0
AreNamed d marks low rows = (k : ℕ) (e : Entry) → low ≤ k → slice_get d.entries k ≡ Some e → is_marked marks k ≡ true → Each (λ v. is_marked rows v ≡ true) (named_rows e)

some-entry : (a b : Entry) → Some a ≡ Some b → a ≡ b
some-entry a b h = cc

next-up : (a b c : ℕ) → c ≡ b + 1 → b ≤ a → nat_eq a b ≡ false → c ≤ a
next-up a b c e h f = search (arith, rules)

pub all-marked : (d : Shared) (marks : List Bool) (at before : ℕ) (e : Entry) (old new : List Bool) → before ≡ at + 1 → slice_get d.entries at ≡ Some e → MarksStay old new → Each (λ v. is_marked new v ≡ true) (named_rows e)
    → AreNamed d marks before old → AreNamed d marks at new
all-marked d marks at before e old new p g stay set h k x low f m = elim (cases_Bool (nat_eq k at)) [
  | inl y ↦ (let q : k ≡ at = search rules in
      let P : ℕ → Type 0 = λ n. slice_get d.entries n ≡ Some x in
      let Q : Entry → Type 0 = λ z. Each (λ v. is_marked new v ≡ true) (named_rows z) in
      subst Q (some-entry e x (sym g ∙ subst P q f)) set)
  | inr n ↦ each-stays old new stay (named_rows x) (h k x (next-up k at before p low n) f m)
]

pub all-unmarked : (d : Shared) (marks : List Bool) (at before : ℕ) (rows : List Bool) → before ≡ at + 1 → is_marked marks at ≡ false → AreNamed d marks before rows → AreNamed d marks at rows
all-unmarked d marks at before rows p u h k x low f m = elim (cases_Bool (nat_eq k at)) [
  | inl y ↦ (let q : k ≡ at = search rules in let r = ap (is_marked marks) q in absurd (cc))
  | inr n ↦ h k x (next-up k at before p low n) f m
]

-- a row that is marked now was marked before, or is the one that the entry names
pub only-named : (d : Shared) (goal at : ℕ) (e : Entry) (old new : List Bool) → slice_get d.entries at ≡ Some e → StandsUnder d goal at → ((v : ℕ) → is_marked new v ≡ true → (is_marked old v ≡ true) ⊎ (e ≡ Row v))
    → ((v : ℕ) → is_marked old v ≡ true → RowStands d goal v) → (v : ℕ) → is_marked new v ≡ true → RowStands d goal v
only-named d goal at e old new g s only h v m = elim (only v m) [
  | inl o ↦ h v o
  | inr q ↦ record { node = at; stands = s; names = g ∙ ap Some q }
]
