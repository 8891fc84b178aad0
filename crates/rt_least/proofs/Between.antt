-- Whether one of some rows is kept, and the literals that ask for it.
use Rattle.std.proofs.Common.{◌≡◌, ℕ, zero, suc, ◌<◌, ◌≤◌, nat_lt, nat_le, Bool, true, false, cond, not, ◌||◌, ◌&&◌, inl, inr, List, [], ◌∷◌, ◌++◌, slice_index_or, refl, sym, ap, ◌∙◌, arith, rules}
use Rattle.std.specs.Bool.{beq}
use Rattle.std.specs.List.{list_all}
use Rattle.std.proofs.lemmas.List.Folds.{list_all-append}
use Rattle.rt_clause.specs.Literal.{Literal}
use Rattle.rt_clause.specs.Lists.{has, IsBelow}
use Rattle.rt_clause.specs.Models.{lit_true}
use Rattle.rt_clause.specs.Gates.{AgreeBelow}
use Rattle.rt_clause.proofs.Bools.{bool-cases, and-both, or-left, or-right}
use Rattle.rt_clause.proofs.Literals.{has-append_cases, has-cases}
use Rattle.rt_formula.specs.Shared.{bool_at}
use Rattle.rt_totalizer.proofs.Rows.{le-true}
use Rattle.rt_least.specs.Order.{IsBare, keeps_some}
use Rattle.rt_least.specs.Sought.{IsWithin, not_kept, not_kept_between}
use Rattle.rt_least.proofs.Aiming.{lt-not-le}
use Rattle.rt_least.proofs.Keeps.{HasFirst}

le-of : (a b : ℕ) → nat_le a b ≡ true → a ≤ b
le-of a b h = search rules

-- a row that is kept there
pub some-of : (p v q : ℕ) (xs : List Bool) → p ≤ v → v < q → slice_index_or xs v false ≡ true → keeps_some p q xs ≡ true
some-of p v zero xs l r k = absurd (omega (arith, r))
some-of p v (suc q) xs l r k = elim (bool-cases (nat_lt v q)) [
  | inl y ↦ or-left (keeps_some p q xs) (nat_le p q && slice_index_or xs q false) (some-of p v q xs l (search rules) k)
  | inr y ↦ (let b : q ≤ v = search rules in
      let e : v ≡ q = omega (arith, b, r) in
      let f : p ≤ q = omega (arith, l, e) in
      or-right (keeps_some p q xs) (nat_le p q && slice_index_or xs q false) (ap (λ c. c && slice_index_or xs q false) (le-true p q f) ∙ ap (λ i. slice_index_or xs i false) (sym e) ∙ k))
]

-- there is none
pub none-bare : (p q : ℕ) (xs : List Bool) → keeps_some p q xs ≡ false → IsBare p q xs
none-bare p q xs h v l r = elim (bool-cases (slice_index_or xs v false)) [
  | inl y ↦ absurd (clash (some-of p v q xs l r y) h)
  | inr y ↦ y
] where
  clash : {b : Bool} → b ≡ true → b ≡ false → ⊥
  clash s t = cc

-- the first of those that are kept there
pub some-first : (p q : ℕ) (xs : List Bool) → keeps_some p q xs ≡ true → HasFirst p q xs
some-first p zero xs h = absurd (cc)
some-first p (suc q) xs h = elim (bool-cases (keeps_some p q xs)) [
  | inl y ↦ (let f = some-first p q xs y in
      let w = f.before in
      record { place = f.place; from = f.from; before = omega (arith, w); kept = f.kept; bare = f.bare })
  | inr y ↦ (let b = and-both (nat_le p q) (slice_index_or xs q false) (sym (ap (λ c. c || (nat_le p q && slice_index_or xs q false)) y) ∙ h) in
      record { place = q; from = le-of p q b.0; before = omega arith; kept = b.1; bare = none-bare p q xs y })
]

-- there is no literal where there is no row
pub between-none : (cone : List Bool) (p q : ℕ) → q ≤ p → not_kept_between cone p q ≡ []
between-none cone p zero h = refl
between-none cone p (suc q) h =
    let n : nat_le p q ≡ false = lt-not-le p q (omega (arith, h)) in
    ap (λ b. cond (b && bool_at cone q) (not_kept_between cone p q ++ not_kept q ∷ []) (not_kept_between cone p q)) n ∙ between-none cone p q (omega (arith, h))

-- the literals are over rows before the end
pub between-below : (cone : List Bool) (p q : ℕ) → IsBelow q (not_kept_between cone p q)
between-below cone p zero l h = absurd (cc)
between-below cone p (suc q) l h = by (nat_le p q && bool_at cone q) h (λ g. let b = between-below cone p q l g in omega (arith, b)) where
  by : (c : Bool) → has (cond c (not_kept_between cone p q ++ not_kept q ∷ []) (not_kept_between cone p q)) l ≡ true → (has (not_kept_between cone p q) l ≡ true → l.var < suc q) → l.var < suc q
  by false g f = f g
  by true g f = elim (has-append_cases (not_kept_between cone p q) (not_kept q ∷ []) l g) [
    | inl y ↦ f y
    | inr y ↦ elim (has-cases (not_kept q) l [] y) [ inl e ↦ (let v = ap (λ (j : Literal). j.var) e in omega (arith, v)) | inr n ↦ absurd (cc) ]
  ]

or-no : (a b : Bool) → b ≡ false → (a || b) ≡ a
or-no true b h = refl
or-no false b h = h

neither : (a b : Bool) → (not a && (not b && true)) ≡ not (a || b)
neither true b = refl
neither false true = refl
neither false false = refl

-- all are true where no row of the cone is kept there, and so where none is, if those outside are
-- left out
pub all-none : (p q : ℕ) (cone keep bools : List Bool) → AgreeBelow q keep bools → IsWithin q cone keep → list_all (lit_true bools) (not_kept_between cone p q) ≡ not (keeps_some p q keep)
all-none p zero cone keep bools a w = refl
all-none p (suc q) cone keep bools a w =
    by (nat_le p q) (bool_at cone q) refl (all-none p q cone keep bools (λ v h. a v (omega (arith, h))) (λ v h. w v (omega (arith, h)))) where
      here : lit_true bools (not_kept q) ≡ not (slice_index_or keep q false)
      here = off (slice_index_or bools q false) ∙ ap not (sym (a q (omega arith))) where
        off : (b : Bool) → beq b false ≡ not b
        off true = refl
        off false = refl

      by : (b c : Bool) → bool_at cone q ≡ c → list_all (lit_true bools) (not_kept_between cone p q) ≡ not (keeps_some p q keep)
          → list_all (lit_true bools) (cond (b && c) (not_kept_between cone p q ++ not_kept q ∷ []) (not_kept_between cone p q)) ≡ not (keeps_some p q keep || (b && slice_index_or keep q false))
      by false c e before = before ∙ ap not (sym (or-no (keeps_some p q keep) false refl))
      by true false e before = before ∙ ap not (sym (or-no (keeps_some p q keep) (slice_index_or keep q false) (w q (omega arith) e)))
      by true true e before =
          list_all-append (lit_true bools) (not_kept_between cone p q) (not_kept q ∷ [])
          ∙ ap (λ b. b && (lit_true bools (not_kept q) && true)) before
          ∙ ap (λ b. not (keeps_some p q keep) && (b && true)) here
          ∙ neither (keeps_some p q keep) (slice_index_or keep q false)
