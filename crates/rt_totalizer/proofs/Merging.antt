-- The clauses that add up two counts say what they are to.
use Rattle.std.proofs.Common.{◌≡◌, ℕ, suc, ◌+◌, ◌<◌, ◌≤◌, nat_le, Bool, true, false, not, ◌⊎◌, inl, inr, List, [], ◌∷◌, ◌++◌, length, length-append, slice_index_or, refl, sym, ap, subst, ◌∙◌, arith}
use Rattle.std.specs.Bool.{beq}
use Rattle.rt_clause.specs.Literal.{Literal, negated}
use Rattle.rt_clause.specs.Lists.{has, Closed, IsMet, Decides, IsBelow, AreBelow}
use Rattle.rt_clause.specs.Models.{lit_true, clause_true, IsModel}
use Rattle.rt_clause.proofs.Bools.{or-left, or-right, not-true}
use Rattle.rt_clause.proofs.Literals.{negated-twice}
use Rattle.rt_clause.proofs.Following.{lit_true-negated}
use Rattle.rt_clause.proofs.EachLine.{EachLine, each-append, each-back, closed-front}
use Rattle.rt_clause.proofs.GateLaws.{IsTrueAt}
use Rattle.rt_clause.proofs.Extending.{index-end, lit_true-front, model-front, model-older}
use Rattle.rt_totalizer.specs.Cells.{cell_at, kept_from, IsToldAs, AreRowsOf, IsRange, IsNever}
use Rattle.rt_totalizer.specs.Merging.{without, IsMerging, IsOutput}
use Rattle.rt_totalizer.proofs.CellLaws.{each-of_three, unit-has, decides-more}
use Rattle.rt_totalizer.proofs.Rows.{cell-has, le-true, le-false, le-cases}
use Rattle.rt_totalizer.proofs.Ranges.{kept-sum, told-true, told-false}
use Rattle.rt_totalizer.proofs.Without.{without-has, without-true, last-true, up-split, down-split}
use Rattle.rt_totalizer.proofs.ReadRows.{rows-in, rows-of, told-decides}

-- a and b rows are kept on the two sides, and there are cells and clauses for them
record Fits (left right : List Literal) (most_left most_right k a b : ℕ) : Type 0 where
  in_left : k < length left
  in_right : k < length right
  few_left : a ≤ most_left
  few_right : b ≤ most_right
  top : k ≤ most_left + most_right

-- the cells of a side say that so many rows are kept
abbrev Says : List Bool → List Literal → ℕ → Type 0
Says bools cells count = (i : ℕ) → i < length cells → lit_true bools (cell_at cells i) ≡ nat_le i count

abbrev Tells : List Literal → List Literal → ℕ → Type 0
Tells set cells count = (i : ℕ) → i < length cells → IsToldAs set (cell_at cells i) (nat_le i count)

-- under true clauses the output says whether at least k are kept
output-means : (bools : List Bool) (never : Literal) (left right : List Literal) (most_left most_right k : ℕ) (out : Literal) (clauses : List (List Literal)) (a b : ℕ)
    → IsMerging never left right most_left most_right k out clauses → Fits left right most_left most_right k a b → Says bools left a → Says bools right b
    → lit_true bools never ≡ false → EachLine (IsTrueAt bools) clauses → lit_true bools out ≡ nat_le k (a + b)
output-means bools never left right most_left most_right k out clauses a b m f l r z h = elim (le-cases k (a + b)) [
  | inl y ↦ (let s = up-split a b k y in
      let line = m.ups s.0 s.1 s.2 (let t = f.few_left in let u = s.3 in omega (arith, t, u)) (let t = f.few_right in let u = s.4 in omega (arith, t, u)) in
      let i = cell_at left s.0 in
      let j = cell_at right s.1 in
      let holds : clause_true bools (negated i ∷ negated j ∷ out ∷ []) ≡ true = sym (without-true bools never (negated i ∷ negated j ∷ out ∷ []) z) ∙ subst (IsTrueAt bools) line.2 (h line.0 line.1) in
      let in_left : s.0 < length left = (let t = f.in_left in let u = s.2 in omega (arith, t, u)) in
      let in_right : s.1 < length right = (let t = f.in_right in let u = s.2 in omega (arith, t, u)) in
      last-true bools (negated i) (negated j) out holds
      (lit_true-negated bools i ∙ ap not (l s.0 in_left ∙ le-true s.0 a s.3)) (lit_true-negated bools j ∙ ap not (r s.1 in_right ∙ le-true s.1 b s.4)) ∙ sym (le-true k (a + b) y))
  | inr y ↦ (let s = down-split a b most_left most_right k y f.few_left f.few_right f.top in
      let line = m.downs s.0 s.1 s.2 s.5 s.6 in
      let i = cell_at left (suc s.0) in
      let j = cell_at right (suc s.1) in
      let holds : clause_true bools (i ∷ j ∷ negated out ∷ []) ≡ true = sym (without-true bools never (i ∷ j ∷ negated out ∷ []) z) ∙ subst (IsTrueAt bools) line.2 (h line.0 line.1) in
      let in_left : suc s.0 < length left = (let t = f.in_left in let u = s.2 in omega (arith, t, u)) in
      let in_right : suc s.1 < length right = (let t = f.in_right in let u = s.2 in omega (arith, t, u)) in
      let no_left : a < suc s.0 = (let u = s.3 in omega (arith, u)) in
      let no_right : b < suc s.1 = (let u = s.4 in omega (arith, u)) in
      not-true (lit_true bools out) (sym (lit_true-negated bools out)
      ∙ last-true bools i j (negated out) holds (l (suc s.0) in_left ∙ le-false (suc s.0) a no_left) (r (suc s.1) in_right ∙ le-false (suc s.1) b no_right))
      ∙ sym (le-false k (a + b) y))
]

-- where the output says it, its clauses are true
up-true : (bools : List Bool) (left right : List Literal) (k : ℕ) (out : Literal) (a b i j : ℕ) → Says bools left a → Says bools right b → k < length left → k < length right
    → lit_true bools out ≡ nat_le k (a + b) → i + j ≡ k → clause_true bools (negated (cell_at left i) ∷ negated (cell_at right j) ∷ out ∷ []) ≡ true
up-true bools left right k out a b i j l r c d o e =
    let x = cell_at left i in
    let y = cell_at right j in
    elim (le-cases i a) [
      | inr p ↦ or-left (lit_true bools (negated x)) _ (lit_true-negated bools x ∙ ap not (l i (omega (arith, c, e)) ∙ le-false i a p))
      | inl p ↦ elim (le-cases j b) [
        | inr q ↦ or-right (lit_true bools (negated x)) _ (or-left (lit_true bools (negated y)) _ (lit_true-negated bools y ∙ ap not (r j (omega (arith, d, e)) ∙ le-false j b q)))
        | inl q ↦ or-right (lit_true bools (negated x)) _ (or-right (lit_true bools (negated y)) _ (or-left (lit_true bools out) _ (o ∙ le-true k (a + b) (omega (arith, p, q, e)))))
      ]
    ]

down-true : (bools : List Bool) (left right : List Literal) (k : ℕ) (out : Literal) (a b i j : ℕ) → Says bools left a → Says bools right b → k < length left → k < length right
    → lit_true bools out ≡ nat_le k (a + b) → suc (i + j) ≡ k → clause_true bools (cell_at left (suc i) ∷ cell_at right (suc j) ∷ negated out ∷ []) ≡ true
down-true bools left right k out a b i j l r c d o e =
    let x = cell_at left (suc i) in
    let y = cell_at right (suc j) in
    elim (le-cases (suc i) a) [
      | inl p ↦ or-left (lit_true bools x) _ (l (suc i) (omega (arith, c, e)) ∙ le-true (suc i) a p)
      | inr p ↦ elim (le-cases (suc j) b) [
        | inl q ↦ or-right (lit_true bools x) _ (or-left (lit_true bools y) _ (r (suc j) (omega (arith, d, e)) ∙ le-true (suc j) b q))
        | inr q ↦ or-right (lit_true bools x) _ (or-right (lit_true bools y) _ (or-left (lit_true bools (negated out)) _ (lit_true-negated bools out ∙ ap not (o ∙ le-false k (a + b) (omega (arith, p, q, e))))))
      ]
    ]

clauses-true : (bools : List Bool) (never : Literal) (left right : List Literal) (most_left most_right k : ℕ) (out : Literal) (clauses : List (List Literal)) (a b : ℕ)
    → IsMerging never left right most_left most_right k out clauses → k < length left → k < length right → Says bools left a → Says bools right b
    → lit_true bools never ≡ false → lit_true bools out ≡ nat_le k (a + b) → EachLine (IsTrueAt bools) clauses
clauses-true bools never left right most_left most_right k out clauses a b m c d l r z o at h = elim (m.only at h) [
  | inl u ↦ subst (IsTrueAt bools) (sym u.5)
      (without-true bools never (negated (cell_at left u.0) ∷ negated (cell_at right u.1) ∷ out ∷ []) z ∙ up-true bools left right k out a b u.0 u.1 l r c d o u.2)
  | inr u ↦ subst (IsTrueAt bools) (sym u.5)
      (without-true bools never (cell_at left (suc u.0) ∷ cell_at right (suc u.1) ∷ negated out ∷ []) z ∙ down-true bools left right k out a b u.0 u.1 l r c d o u.2)
]

-- propagation gives the output
told-has : (set : List Literal) (l : Literal) (b : Bool) → IsToldAs set l b → b ≡ true → has set (negated (negated l)) ≡ true
told-has set l b t e = let P : Bool → Type 0 = IsToldAs set l in ap (has set) (negated-twice l) ∙ subst P e t

told-lacks : (set : List Literal) (l : Literal) (b : Bool) → IsToldAs set l b → b ≡ false → has set (negated l) ≡ true
told-lacks set l b t e = let P : Bool → Type 0 = IsToldAs set l in subst P e t

-- a met clause of three, less the literal that is never true, whose others are false
last-has : (set : List Literal) (never a b c : Literal) → ((k : Literal) → has set k ≡ true → has set (negated k) ≡ false) → IsMet set (without never (a ∷ b ∷ c ∷ []))
    → has set (negated a) ≡ true → has set (negated b) ≡ true → has set c ≡ true
last-has set never a b c once met f g =
    let P : Literal → Type 0 = λ l. (l ≡ c) ⊎ (has set (negated l) ≡ true) in
    unit-has set (without never (a ∷ b ∷ c ∷ [])) c once met (λ l h. each-of_three P a b c (inr f) (inr g) (inl refl) l (without-has never (a ∷ b ∷ c ∷ []) l h))

output-told : (set : List Literal) (never : Literal) (left right : List Literal) (most_left most_right k : ℕ) (out : Literal) (clauses : List (List Literal)) (a b : ℕ)
    → IsMerging never left right most_left most_right k out clauses → Fits left right most_left most_right k a b → Tells set left a → Tells set right b
    → ((l : Literal) → has set l ≡ true → has set (negated l) ≡ false) → EachLine (IsMet set) clauses → IsToldAs set out (nat_le k (a + b))
output-told set never left right most_left most_right k out clauses a b m f l r once h = elim (le-cases k (a + b)) [
  | inl y ↦ (let s = up-split a b k y in
      let line = m.ups s.0 s.1 s.2 (let t = f.few_left in let u = s.3 in omega (arith, t, u)) (let t = f.few_right in let u = s.4 in omega (arith, t, u)) in
      let i = cell_at left s.0 in
      let j = cell_at right s.1 in
      let in_left : s.0 < length left = (let t = f.in_left in let u = s.2 in omega (arith, t, u)) in
      let in_right : s.1 < length right = (let t = f.in_right in let u = s.2 in omega (arith, t, u)) in
      told-true set out (nat_le k (a + b)) (le-true k (a + b) y)
      (last-has set never (negated i) (negated j) out once (subst (IsMet set) line.2 (h line.0 line.1))
      (told-has set i (nat_le s.0 a) (l s.0 in_left) (le-true s.0 a s.3)) (told-has set j (nat_le s.1 b) (r s.1 in_right) (le-true s.1 b s.4))))
  | inr y ↦ (let s = down-split a b most_left most_right k y f.few_left f.few_right f.top in
      let line = m.downs s.0 s.1 s.2 s.5 s.6 in
      let i = cell_at left (suc s.0) in
      let j = cell_at right (suc s.1) in
      let in_left : suc s.0 < length left = (let t = f.in_left in let u = s.2 in omega (arith, t, u)) in
      let in_right : suc s.1 < length right = (let t = f.in_right in let u = s.2 in omega (arith, t, u)) in
      let no_left : a < suc s.0 = (let u = s.3 in omega (arith, u)) in
      let no_right : b < suc s.1 = (let u = s.4 in omega (arith, u)) in
      told-false set out (nat_le k (a + b)) (le-false k (a + b) y)
      (last-has set never i j (negated out) once (subst (IsMet set) line.2 (h line.0 line.1))
      (told-lacks set i (nat_le (suc s.0) a) (l (suc s.0) in_left) (le-false (suc s.0) a no_left)) (told-lacks set j (nat_le (suc s.1) b) (r (suc s.1) in_right) (le-false (suc s.1) b no_right))))
]

-- the clauses name cells below k + 1 and the output
clauses-below : (m : ℕ) (never : Literal) (left right : List Literal) (most_left most_right k : ℕ) (out : Literal) (clauses : List (List Literal))
    → IsMerging never left right most_left most_right k out clauses → k < length left → k < length right → IsBelow m left → IsBelow m right → out.var < m → AreBelow m clauses
clauses-below m never left right most_left most_right k out clauses g c d l r o at h =
    let P : Literal → Type 0 = λ l. l.var < m in
    let B : List Literal → Type 0 = IsBelow m in
    let from_left : (i : ℕ) → i ≤ k → P (cell_at left i) = λ i b. l (cell_at left i) (cell-has left i (omega (arith, c, b))) in
    let from_right : (i : ℕ) → i ≤ k → P (cell_at right i) = λ i b. r (cell_at right i) (cell-has right i (omega (arith, d, b))) in
    elim (g.only at h) [
      | inl u ↦ (let e = u.2 in let x = cell_at left u.0 in let y = cell_at right u.1 in
          subst B (sym u.5) (λ l h. each-of_three P (negated x) (negated y) out (from_left u.0 (omega (arith, e))) (from_right u.1 (omega (arith, e))) o l
          (without-has never (negated x ∷ negated y ∷ out ∷ []) l h)))
      | inr u ↦ (let e = u.2 in let x = cell_at left (suc u.0) in let y = cell_at right (suc u.1) in
          subst B (sym u.5) (λ l h. each-of_three P x y (negated out) (from_left (suc u.0) (omega (arith, e))) (from_right (suc u.1) (omega (arith, e))) o l
          (without-has never (x ∷ y ∷ negated out ∷ []) l h)))
    ]

-- The output of two ranges side by side.
pub merged : (among : List Bool) (rows : ℕ) (never : Literal) (low a b most_left most_right k : ℕ) (left right : List Literal) (next : ℕ) (lines clauses : List (List Literal)) (out : Literal)
    → IsNever never lines → never.var < next → IsRange among rows never low a most_left left next lines → IsRange among rows never (low + a) b most_right right next lines → rows ≤ next → 1 ≤ k
    → k < length left → k < length right → k ≤ most_left + most_right → out ≡ record { var = next; on = true } → IsMerging never left right most_left most_right k out clauses
    → IsOutput among rows low (a + b) k out next lines (lines ++ clauses)
merged among rows never low a b most_left most_right k left right next lines clauses out z v l r w one c d top e m = record {
  over = record {
    more = clauses;
    lines = refl;
    wider = omega arith;
    below = λ old. each-append (IsBelow (next + 1)) lines clauses (λ i h x g. let q = old i h x g in omega (arith, q))
        (clauses-below (next + 1) never left right most_left most_right k out clauses m c d (λ x h. let q = l.below x h in omega (arith, q)) (λ x h. let q = r.below x h in omega (arith, q)) (omega (arith, ov)));
    extends = extends;
    determined = λ j old set g h. (let known = old set (closed-front lines clauses set g) h in
        let rowed : Decides set rows = λ row b. known row (omega (arith, b, w)) in
        let bools = rows-in among set rows in
        decides-more set next out ov known (told-decides set out (nat_le k (kept_from low (a + b) bools)) (told set g bools (rows-of among rows set rowed))));
  };
  means = λ bools h.
      let old = model-older lines clauses bools h in
      output-means bools never left right most_left most_right k out clauses (kept_from low a bools) (kept_from (low + a) b bools) m
      (record { in_left = c; in_right = d; few_left = l.few bools old; few_right = r.few bools old; top = top }) (l.means bools old) (r.means bools old) (z.in_model bools old) (each-back (IsTrueAt bools) lines clauses h)
      ∙ ap (nat_le k) (sym (kept-sum low a b bools));
  told = told;
} where
  ov : out.var ≡ next
  ov = ap (λ (x : Literal). x.var) e

  told : (set : List Literal) → Closed (lines ++ clauses) set → (bools : List Bool) → AreRowsOf among rows set bools → IsToldAs set out (nat_le k (kept_from low (a + b) bools))
  told set g bools q =
      let old = closed-front lines clauses set g in
      let P : ℕ → Type 0 = λ n. IsToldAs set out (nat_le k n) in
      subst P (sym (kept-sum low a b bools))
      (output-told set never left right most_left most_right k out clauses (kept_from low a bools) (kept_from (low + a) b bools) m
      (record { in_left = c; in_right = d; few_left = l.few_told set old bools q; few_right = r.few_told set old bools q; top = top }) (l.told set old bools q) (r.told set old bools q)
      g.consistent (each-back (IsMet set) lines clauses g.met))

  extends : AreBelow next lines → (bools : List Bool) → length bools ≡ next → IsModel lines bools → (rest : List Bool) × (length (bools ++ rest) ≡ next + 1) × IsModel (lines ++ clauses) (bools ++ rest)
  extends low_lines bools s h =
      let value = nat_le k (kept_from low a bools + kept_from (low + a) b bools) in
      let more = bools ++ value ∷ [] in
      let AB : ℕ → Type 0 = λ n. AreBelow n lines in
      let t = length-append bools (value ∷ []) in
      let at : slice_index_or more next false ≡ value = ap (λ (n : ℕ). slice_index_or more n false) (sym s) ∙ index-end bools value in
      let o : lit_true more out ≡ value = ap (lit_true more) e ∙ ap (λ x. beq x true) at ∙ same value in
      let same_left : Says more left (kept_from low a bools) = λ i b. (let q = l.below (cell_at left i) (cell-has left i b) in lit_true-front bools (value ∷ []) (cell_at left i) (omega (arith, q, s)) ∙ l.means bools h i b) in
      let same_right : Says more right (kept_from (low + a) b bools) = λ i b. (let q = r.below (cell_at right i) (cell-has right i b) in lit_true-front bools (value ∷ []) (cell_at right i) (omega (arith, q, s)) ∙ r.means bools h i b) in
      let same_never : lit_true more never ≡ false = lit_true-front bools (value ∷ []) never (omega (arith, v, s)) ∙ z.in_model bools h in (
        value ∷ [],
        omega (arith, t, s),
        each-append (IsTrueAt more) lines clauses (model-front bools (value ∷ []) lines (subst AB (sym s) low_lines) h)
            (clauses-true more never left right most_left most_right k out clauses (kept_from low a bools) (kept_from (low + a) b bools) m c d same_left same_right same_never o),
      ) where
        same : (b : Bool) → beq b true ≡ b
        same true = refl
        same false = refl
