-- Where no other choice of at most as many rows leaves out a row of the best, there is none.
use Rattle.std.proofs.Common.{◌≡◌, ℕ, suc, ◌+◌, ◌<◌, ◌≤◌, nat_lt, Bool, true, false, cond, not, inl, inr, List, [], ◌∷◌, ◌++◌, append_assoc, length, slice_index_or, refl, sym, ap, subst, ◌∙◌, Option, Some, None, arith, rules}
use Rattle.std.specs.List.{list_all}
use Rattle.std.proofs.lemmas.List.Sums.{sum_by-cons}
use Rattle.rt_value.specs.Keep.{size}
use Rattle.rt_clause.specs.Literal.{Literal, negated}
use Rattle.rt_clause.specs.Lists.{has}
use Rattle.rt_clause.specs.Models.{lit_true, IsModel}
use Rattle.rt_clause.specs.Gates.{gate}
use Rattle.rt_clause.proofs.Bools.{bool-cases, and-both}
use Rattle.rt_clause.proofs.Following.{lit_true-negated}
use Rattle.rt_clause.proofs.Literals.{has-append_cases, has-append_left, has-append_right, has-cases, has-head}
use Rattle.rt_clause.proofs.Extending.{extends-gate, gate-means, model-older}
use Rattle.rt_formula.specs.Shared.{Shared}
use Rattle.rt_least.specs.Aimed.{IsAimed}
use Rattle.rt_least.specs.Alone.{AllowsFew, AreKept, HasMoreLines, IsOnly, IsOther}
use Rattle.rt_least.specs.Attempts.{IsAnswered, IsGrown, HasNone}
use Rattle.rt_least.specs.Least.{IsLeast}
use Rattle.rt_least.specs.Sought.{IsSought}
use Rattle.rt_least.proofs.Aiming.{aimed-extends, model-sought}
use Rattle.rt_least.proofs.Leading.{clash, row-value}
use Rattle.rt_least.proofs.Keeps.{index-within}

-- the literals of one row more
pub kept-not : (keep : List Bool) (row : ℕ) (lits : List Literal) → AreKept keep row lits → slice_index_or keep row false ≡ false → AreKept keep (row + 1) lits
kept-not keep row lits k o = record {
  below = λ l h. (let b = k.below l h in omega (arith, b));
  each = λ v h on. elim (bool-cases (nat_lt v row)) [
    | inl y ↦ k.each v (search rules) on
    | inr y ↦ absurd (let b : row ≤ v = search rules in let q : v ≡ row = omega (arith, b, h) in clash on (ap (λ i. slice_index_or keep i false) q ∙ o))
  ];
}

pub kept-too : (keep : List Bool) (row : ℕ) (lits : List Literal) (x : Literal) → AreKept keep row lits → x.var ≡ row → x.on ≡ true → AreKept keep (row + 1) (lits ++ x ∷ [])
kept-too keep row lits x k e o = record {
  below = λ l h. elim (has-append_cases lits (x ∷ []) l h) [
    | inl y ↦ (let b = k.below l y in omega (arith, b))
    | inr y ↦ elim (has-cases x l [] y) [ inl q ↦ (let V = ap (λ (j : Literal). j.var) q in omega (arith, V, e)) | inr c ↦ absurd (cc) ]
  ];
  each = λ v h on. elim (bool-cases (nat_lt v row)) [
    | inl y ↦ (let f = k.each v (search rules) on in (f.0, has-append_left lits (x ∷ []) f.0 f.1, f.2, f.3))
    | inr y ↦ (let b : row ≤ v = search rules in (x, has-append_right lits (x ∷ []) x (has-head x []), omega (arith, b, h, e), o))
  ];
}

-- where all literals are true, each of them is
all-each : (bools : List Bool) (lits : List Literal) (l : Literal) → list_all (lit_true bools) lits ≡ true → has lits l ≡ true → lit_true bools l ≡ true
all-each bools [] l a h = cc
all-each bools (x ∷ xs) l a h =
    let b = and-both (lit_true bools x) (list_all (lit_true bools) xs) a in
    elim (has-cases x l xs h) [ inl e ↦ ap (lit_true bools) e ∙ b.0 | inr r ↦ all-each bools xs l b.1 r ]

one-more : (xs : List Bool) → size (true ∷ xs) ≡ 1 + size xs
one-more xs = sum_by-cons (λ b. cond b 1 0) true xs

none-more : (xs : List Bool) → size (false ∷ xs) ≡ 0 + size xs
none-more xs = sum_by-cons (λ b. cond b 1 0) false xs

-- one choice keeps the rows of another
abbrev Keeps : List Bool → List Bool → Type 0
Keeps keep other = (v : ℕ) → slice_index_or other v false ≡ true → slice_index_or keep v false ≡ true

-- and is that one, where it keeps no more
keeps-same : (xs ys : List Bool) → length xs ≡ length ys → size xs ≤ size ys → Keeps xs ys → xs ≡ ys
keeps-same [] [] e s k = refl
keeps-same [] (y ∷ ys) e s k = absurd (omega (arith, e))
keeps-same (x ∷ xs) [] e s k = absurd (omega (arith, e))
keeps-same (true ∷ xs) (true ∷ ys) e s k = (let a = one-more xs in let b = one-more ys in ap (λ (zs : List Bool). true ∷ zs) (keeps-same xs ys (omega (arith, e)) (omega (arith, s, a, b)) (λ v. k (suc v))))
keeps-same (true ∷ xs) (false ∷ ys) e s k = absurd (
    let a = one-more xs in
    let b = none-more ys in
    let q = ap size (keeps-same xs ys (omega (arith, e)) (omega (arith, s, a, b)) (λ v. k (suc v))) in
    omega (arith, q, s, a, b))
keeps-same (false ∷ xs) (true ∷ ys) e s k = absurd (clash (k 0 refl) refl)
keeps-same (false ∷ xs) (false ∷ ys) e s k = (let a = none-more xs in let b = none-more ys in ap (λ (zs : List Bool). false ∷ zs) (keeps-same xs ys (omega (arith, e)) (omega (arith, s, a, b)) (λ v. k (suc v))))

-- the question for another choice: the lines with its gate, and after the search
pub record IsPut (d : Shared) (goal : ℕ) (cone : List Bool) (lines first new : List (List Literal)) (next : ℕ) (best : List Bool) (lits : List Literal) (held all asked : Literal) : Type 0 where
  pub aimed : IsAimed d goal cone lines next
  pub long : length best ≡ d.rows
  pub few : AllowsFew d lines best held
  pub low : held.var < next
  pub kept : AreKept best (length best) lits
  pub all_var : all.var ≡ next
  pub all_is : first ≡ lines ++ gate all lits
  pub asked_is : asked ≡ negated all
  pub grown : IsGrown first new (Some held) (next + 1)

pub other-begun : (d : Shared) (goal : ℕ) (cone : List Bool) (lines first new : List (List Literal)) (next n : ℕ) (best : List Bool) (lits kept : List Literal) (held all asked : Literal) → IsAimed d goal cone lines next → length best ≡ d.rows → AllowsFew d lines best held → held.var < next
    → AreKept best (length best) kept → lits ≡ kept → n ≡ next → all.var ≡ n → first ≡ lines ++ gate all lits → asked ≡ negated all → IsGrown first new (Some held) (n + 1)
    → IsPut d goal cone lines first new n best kept held all asked
other-begun d goal cone lines first new next n best lits kept held all asked a l f low k ke ne av ae xe g =
    let N : ℕ → Type 0 = λ m. IsAimed d goal cone lines m in
    record {
      aimed = subst N (sym ne) a;
      long = l;
      few = f;
      low = omega (arith, low, ne);
      kept = k;
      all_var = av;
      all_is = ae ∙ ap (λ ls. lines ++ gate all ls) ke;
      asked_is = xe;
      grown = g;
    }

pub other-longer : (d : Shared) (goal : ℕ) (cone : List Bool) (lines first new : List (List Literal)) (next : ℕ) (best : List Bool) (lits : List Literal) (held all asked : Literal) → IsPut d goal cone lines first new next best lits held all asked → HasMoreLines lines new
other-longer d goal cone lines first new next best lits held all asked o = record {
  more = gate all lits ++ o.grown.more;
  lines = o.grown.lines ∙ ap (λ ls. ls ++ o.grown.more) o.all_is ∙ append_assoc lines (gate all lits) o.grown.more;
}

pub other-aimed : (d : Shared) (goal : ℕ) (cone : List Bool) (lines first new : List (List Literal)) (next : ℕ) (best : List Bool) (lits : List Literal) (held all asked : Literal) → IsPut d goal cone lines first new next best lits held all asked → IsAimed d goal cone new (next + 1)
other-aimed d goal cone lines first new next best lits held all asked o =
    let A : List (List Literal) → Type 0 = λ ls. IsAimed d goal cone ls (next + 1) in
    let w = o.aimed.wide in
    let b = o.long in
    let low = o.low in
    o.grown.aims d goal cone (omega (arith, low))
    (subst A (sym o.all_is) (aimed-extends d goal cone lines (lines ++ gate all lits) next (next + 1) o.aimed (extends-gate lines next all lits o.all_var (λ l h. let k = o.kept.below l h in omega (arith, k, w, b)))))

-- the rows of a model are a choice
other-found : (d : Shared) (goal : ℕ) (cone : List Bool) (lines first new : List (List Literal)) (next rows : ℕ) (best : List Bool) (lits : List Literal) (held all asked : Literal) (keep : List Bool) → rows ≡ d.rows → IsPut d goal cone lines first new next best lits held all asked → IsAnswered new held asked rows (Some keep)
    → IsSought d goal cone keep
other-found d goal cone lines first new next rows best lits held all asked keep e o q =
    model-sought d goal cone new (Some held) (next + 1) (length q.0) rows q.0 keep e q.1 q.4 (other-aimed d goal cone lines first new next best lits held all asked o) q.2

-- a model over another choice of as few rows makes the question true, or keeps the rows of the
-- best
other-only : (d : Shared) (goal : ℕ) (cone : List Bool) (lines first new : List (List Literal)) (next : ℕ) (best : List Bool) (lits : List Literal) (held all asked : Literal) → IsPut d goal cone lines first new next best lits held all asked → HasNone new (Some held) asked
    → IsOnly (IsSought d goal cone) best
other-only d goal cone lines first new next best lits held all asked o r s g e = keeps-same s best (g.0 ∙ sym o.long) e keeps where
  bools : List Bool
  bools = ((other-aimed d goal cone lines first new next best lits held all asked o).complete s g).0

  like : (v : ℕ) → v < d.rows → slice_index_or s v false ≡ slice_index_or bools v false
  like = ((other-aimed d goal cone lines first new next best lits held all asked o).complete s g).2

  model : IsModel new bools
  model = ((other-aimed d goal cone lines first new next best lits held all asked o).complete s g).3

  one : IsModel (lines ++ gate all lits) bools
  one = let M : List (List Literal) → Type 0 = λ ls. IsModel ls bools in subst M o.all_is (model-older first o.grown.more bools (subst M o.grown.lines model))

  holds : lit_true bools held ≡ true
  holds = o.few s bools g.0 like (model-older lines (gate all lits) bools one) e

  full : lit_true bools all ≡ true
  full = elim (bool-cases (lit_true bools all)) [
    | inl y ↦ y
    | inr y ↦ absurd (r bools model holds (ap (lit_true bools) o.asked_is ∙ lit_true-negated bools all ∙ ap not y))
  ]

  keeps : (v : ℕ) → slice_index_or best v false ≡ true → slice_index_or s v false ≡ true
  keeps v h =
      let b = o.long in
      let inside : v < length best = index-within best v h in
      let f = o.kept.each v inside h in
      let t = all-each bools lits f.0 (sym (gate-means lines all lits bools one) ∙ full) f.1 in
      sym (row-value d new v f.0 (omega (arith, inside, b)) f.2 f.3 s bools g.0 like model) ∙ t

-- what the question finds
pub other-answer : (d : Shared) (goal : ℕ) (cone : List Bool) (lines first new : List (List Literal)) (next rows : ℕ) (best : List Bool) (lits : List Literal) (held all asked : Literal) (found : Option (List Bool)) → rows ≡ d.rows → IsPut d goal cone lines first new next best lits held all asked → IsAnswered new held asked rows found
    → IsOther (IsSought d goal cone) best found
other-answer d goal cone lines first new next rows best lits held all asked None e o q = other-only d goal cone lines first new next best lits held all asked o q
other-answer d goal cone lines first new next rows best lits held all asked (Some keep) e o q = other-found d goal cone lines first new next rows best lits held all asked keep e o q

-- the only one of at most as many rows is the least
pub only-least : (IsTarget : List Bool → Type 0) (best : List Bool) → IsTarget best → IsOnly IsTarget best → IsLeast IsTarget best
only-least IsTarget best g a = record {
  is_target = g;
  least = λ s t. elim (bool-cases (nat_lt (size s) (size best))) [
    | inl y ↦ (let l : size s < size best = search rules in let q = ap size (a s t (omega (arith, l))) in omega (arith, q))
    | inr y ↦ search rules
  ];
  first = λ s t e b. clash b.keeps (ap (λ xs. slice_index_or xs b.place false) (a s t (omega (arith, e))) ∙ b.leaves);
}
