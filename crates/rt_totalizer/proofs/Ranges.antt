-- Laws of cells that count a range of rows.
use Rattle.std.proofs.Common.{◌≡◌, ℕ, zero, suc, ◌+◌, ◌<◌, ◌≤◌, nat_le, Bool, true, false, cond, not, inl, inr, List, [], ◌∷◌, ◌++◌, replicate, length, length-append, slice_index_or, refl, sym, ap, subst, ◌∙◌, arith}
use Rattle.std.specs.Bool.{beq}
use Rattle.rt_clause.specs.Literal.{Literal, negated}
use Rattle.rt_clause.specs.Lists.{has, Closed, IsBelow}
use Rattle.rt_clause.specs.Models.{lit_true, IsModel}
use Rattle.rt_clause.proofs.Literals.{has-cases, negated-twice}
use Rattle.rt_clause.proofs.Following.{lit_true-negated}
use Rattle.rt_clause.proofs.EachLine.{closed-front}
use Rattle.rt_clause.proofs.Extending.{model-older}
use Rattle.rt_totalizer.specs.Cells.{cell_at, first_cells, kept_below, kept_from, IsToldAs, AreCells, AreTold, AreRowsOf, IsLeftOut, IsRange, IsNever}
use Rattle.rt_totalizer.specs.Merging.{IsOutput}
use Rattle.rt_totalizer.proofs.Rows.{each-cell, below-more, le-true, le-false}

-- two ranges side by side, and all rows below n
pub kept-sum : (low a b : ℕ) (bools : List Bool) → kept_from low (a + b) bools ≡ kept_from low a bools + kept_from (low + a) b bools
kept-sum low a zero bools = ap (λ (n : ℕ). kept_from low n bools) (let e : a + 0 ≡ a = omega arith in e) ∙ omega arith
kept-sum low a (suc b) bools =
    let e : a + suc b ≡ suc (a + b) = omega arith in
    let i : low + (a + b) ≡ low + a + b = omega arith in
    ap (λ (n : ℕ). kept_from low n bools) e ∙ ap (λ (v : ℕ). cond (slice_index_or bools v false) (kept_from low (a + b) bools + 1) (kept_from low (a + b) bools)) i
    ∙ ap (λ (n : ℕ). cond (slice_index_or bools (low + a + b) false) (n + 1) n) (kept-sum low a b bools)
    ∙ by (slice_index_or bools (low + a + b) false) (kept_from low a bools) (kept_from (low + a) b bools) where
      by : (x : Bool) (n m : ℕ) → cond x (n + m + 1) (n + m) ≡ n + cond x (m + 1) m
      by true n m = omega arith
      by false n m = refl

pub kept-all : (n : ℕ) (bools : List Bool) → kept_from 0 n bools ≡ kept_below n bools
kept-all zero bools = refl
kept-all (suc n) bools =
    let e : 0 + n ≡ n = omega arith in
    ap (λ (v : ℕ). cond (slice_index_or bools v false) (kept_from 0 n bools + 1) (kept_from 0 n bools)) e
    ∙ ap (λ (c : ℕ). cond (slice_index_or bools n false) (c + 1) c) (kept-all n bools)

-- what holds of lines holds of those that go on from them
pub never-on : (never : Literal) (lines more : List (List Literal)) → IsNever never lines → IsNever never (lines ++ more)
never-on never lines more h = record {
  in_model = λ bools m. h.in_model bools (model-older lines more bools m);
  in_set = λ set c. h.in_set set (closed-front lines more set c);
}

pub range-on : (among : List Bool) (rows : ℕ) (never : Literal) (low n most : ℕ) (cells : List Literal) (next m : ℕ) (lines more : List (List Literal)) → next ≤ m
    → IsRange among rows never low n most cells next lines → IsRange among rows never low n most cells m (lines ++ more)
range-on among rows never low n most cells next m lines more w r = record {
  below = λ l h. let b = r.below l h in omega (arith, b, w);
  beyond = r.beyond;
  few = λ bools h. r.few bools (model-older lines more bools h);
  few_told = λ set c bools a. r.few_told set (closed-front lines more set c) bools a;
  means = λ bools h. r.means bools (model-older lines more bools h);
  told = λ set c bools a. r.told set (closed-front lines more set c) bools a;
}

-- one more cell: a new output, or, beyond the rows that there are, never
pub range-output : (among : List Bool) (rows : ℕ) (never : Literal) (low n most k : ℕ) (cells : List Literal) (next : ℕ) (lines more : List (List Literal)) (out : Literal)
    → IsRange among rows never low n most cells next lines → length cells ≡ k → k ≤ most → out ≡ record { var = next; on = true } → IsOutput among rows low n k out next lines (lines ++ more)
    → IsRange among rows never low n most (cells ++ out ∷ []) (next + 1) (lines ++ more)
range-output among rows never low n most k cells next lines more out r s f e o = record {
  below = below-more (next + 1) cells out (λ l h. let b = r.below l h in omega (arith, b)) (let v = ap (λ (j : Literal). j.var) e in omega (arith, v));
  beyond = λ j g h. absurd (let t = length-append cells (out ∷ []) in omega (arith, t, s, f, g, h));
  few = λ bools h. r.few bools (model-older lines more bools h);
  few_told = λ set c bools a. r.few_told set (closed-front lines more set c) bools a;
  means = λ bools h. (let P : ℕ → Type 0 = λ j. lit_true bools out ≡ nat_le j (kept_from low n bools) in
      each-cell (λ j l. lit_true bools l ≡ nat_le j (kept_from low n bools)) cells out (r.means bools (model-older lines more bools h)) (subst P (sym s) (o.means bools h)));
  told = λ set c bools a. (let P : ℕ → Type 0 = λ j. IsToldAs set out (nat_le j (kept_from low n bools)) in
      each-cell (λ j l. IsToldAs set l (nat_le j (kept_from low n bools))) cells out (r.told set (closed-front lines more set c) bools a) (subst P (sym s) (o.told set c bools a)));
}

-- a literal that is told to be false, or true
pub told-false : (set : List Literal) (l : Literal) (b : Bool) → b ≡ false → has set (negated l) ≡ true → IsToldAs set l b
told-false set l b e h = let P : Bool → Type 0 = IsToldAs set l in subst P (sym e) h

pub told-true : (set : List Literal) (l : Literal) (b : Bool) → b ≡ true → has set l ≡ true → IsToldAs set l b
told-true set l b e h = let P : Bool → Type 0 = IsToldAs set l in subst P (sym e) h

pub range-never : (among : List Bool) (rows : ℕ) (never : Literal) (low n most k : ℕ) (cells : List Literal) (next : ℕ) (lines : List (List Literal)) → IsNever never lines → never.var < next
    → IsRange among rows never low n most cells next lines → length cells ≡ k → most < k → IsRange among rows never low n most (cells ++ never ∷ []) next lines
range-never among rows never low n most k cells next lines z v r s f = record {
  below = below-more next cells never r.below v;
  beyond = λ j g h. each-cell (λ (i : ℕ) (l : Literal). most < i → l ≡ never) cells never (λ i b t. r.beyond i t b) (λ t. refl) j h g;
  few = r.few;
  few_told = r.few_told;
  means = λ bools h. (let c = r.few bools h in
      each-cell (λ j l. lit_true bools l ≡ nat_le j (kept_from low n bools)) cells never (r.means bools h)
      (z.in_model bools h ∙ sym (le-false (length cells) (kept_from low n bools) (omega (arith, c, s, f)))));
  told = λ set c bools a. (let g = r.few_told set c bools a in
      each-cell (λ j l. IsToldAs set l (nat_le j (kept_from low n bools))) cells never (r.told set c bools a)
      (told-false set never (nat_le (length cells) (kept_from low n bools)) (le-false (length cells) (kept_from low n bools) (omega (arith, g, s, f))) (z.in_set set c)));
}

replicate-at : (n : ℕ) (l : Literal) (k : ℕ) → k < n → cell_at (replicate n l) k ≡ l
replicate-at zero l k h = absurd (omega arith)
replicate-at (suc n) l zero h = refl
replicate-at (suc n) l (suc k) h = replicate-at n l k (omega arith)

replicate-has : (n : ℕ) (l k : Literal) → has (replicate n l) k ≡ true → k ≡ l
replicate-has zero l k h = absurd (cc)
replicate-has (suc n) l k h = elim (has-cases l k (replicate n l) h) [ inl e ↦ e | inr r ↦ replicate-has n l k r ]

length-replicate : (n : ℕ) (l : Literal) → length (replicate n l) ≡ n
length-replicate zero l = refl
length-replicate (suc n) l = let h = length-replicate n l in grind (arith, h)

pub first-length : (always : Literal) (upto : ℕ) → length (first_cells always upto) ≡ upto + 1
first-length always upto = let h = length-replicate upto (negated always) in grind (arith, h)

-- the cells of no rows: the first is true, each other one is false
first-beyond : (never : Literal) (upto k : ℕ) → 0 < k → k < length (first_cells (negated never) upto) → cell_at (first_cells (negated never) upto) k ≡ never
first-beyond never upto zero g h = absurd (omega arith)
first-beyond never upto (suc k) g h =
    let t = first-length (negated never) upto in
    replicate-at upto (negated (negated never)) k (omega (arith, h, t)) ∙ negated-twice never

first-below : (never : Literal) (upto next : ℕ) → never.var < next → IsBelow next (first_cells (negated never) upto)
first-below never upto next v l h =
    let P : Literal → Type 0 = λ k. k.var < next in
    elim (has-cases (negated never) l (replicate upto (negated (negated never))) h) [ inl e ↦ subst P (sym e) v | inr r ↦ subst P (sym (replicate-has upto (negated (negated never)) l r)) v ]

-- where nothing is kept the first cells say so
first-means : (never : Literal) (upto low n : ℕ) (bools : List Bool) → lit_true bools never ≡ false → kept_from low n bools ≡ 0 → AreCells (first_cells (negated never) upto) low n bools
first-means never upto low n bools f c zero b = lit_true-negated bools never ∙ ap not f ∙ sym (le-true 0 (kept_from low n bools) (omega arith))
first-means never upto low n bools f c (suc k) b =
    ap (lit_true bools) (first-beyond never upto (suc k) (omega arith) b) ∙ f ∙ sym (le-false (suc k) (kept_from low n bools) (omega (arith, c)))

first-told : (never : Literal) (upto low n : ℕ) (bools : List Bool) (set : List Literal) → has set (negated never) ≡ true → kept_from low n bools ≡ 0
    → AreTold (first_cells (negated never) upto) low n bools set
first-told never upto low n bools set f c zero b = told-true set (negated never) (nat_le 0 (kept_from low n bools)) (le-true 0 (kept_from low n bools) (omega arith)) f
first-told never upto low n bools set f c (suc k) b =
    let P : Literal → Type 0 = λ l. IsToldAs set l (nat_le (suc k) (kept_from low n bools)) in
    subst P (sym (first-beyond never upto (suc k) (omega arith) b))
    (told-false set never (nat_le (suc k) (kept_from low n bools)) (le-false (suc k) (kept_from low n bools) (omega (arith, c))) f)

-- the cells of no rows
pub range-none : (among : List Bool) (rows : ℕ) (never : Literal) (low upto next : ℕ) (lines : List (List Literal)) → IsNever never lines → never.var < next
    → IsRange among rows never low 0 0 (first_cells (negated never) upto) next lines
range-none among rows never low upto next lines z v = record {
  below = first-below never upto next v;
  beyond = first-beyond never upto;
  few = λ bools h. omega arith;
  few_told = λ set c bools a. omega arith;
  means = λ bools h. first-means never upto low 0 bools (z.in_model bools h) refl;
  told = λ set c bools a. first-told never upto low 0 bools set (z.in_set set c) refl;
}

-- one row
kept-one : (low : ℕ) (bools : List Bool) → kept_from low 1 bools ≡ cond (slice_index_or bools low false) 1 0
kept-one low bools = let e : low + 0 ≡ low = omega arith in ap (λ (v : ℕ). cond (slice_index_or bools v false) (0 + 1) 0) e

kept-none : (low : ℕ) (bools : List Bool) → slice_index_or bools low false ≡ false → kept_from low 1 bools ≡ 0
kept-none low bools h = kept-one low bools ∙ ap (λ b. cond b 1 0) h

-- the cells of a row that is not among these
pub range-out : (among : List Bool) (rows low upto next : ℕ) (never : Literal) (lines : List (List Literal)) → IsNever never lines → never.var < next → low < rows
    → slice_index_or among low false ≡ false → IsLeftOut among low lines → IsRange among rows never low 1 0 (first_cells (negated never) upto) next lines
range-out among rows low upto next never lines z v b f out =
    let gone : (bools : List Bool) → IsModel lines bools → kept_from low 1 bools ≡ 0 = λ bools h. kept-none low bools (out f bools h) in
    let lost : (set : List Literal) (bools : List Bool) → AreRowsOf among rows set bools → kept_from low 1 bools ≡ 0 = λ set bools a. kept-none low bools ((a low b).1 f) in
    record {
      below = first-below never upto next v;
      beyond = first-beyond never upto;
      few = λ bools h. let e = gone bools h in omega (arith, e);
      few_told = λ set c bools a. let e = lost set bools a in omega (arith, e);
      means = λ bools h. first-means never upto low 1 bools (z.in_model bools h) (gone bools h);
      told = λ set c bools a. first-told never upto low 1 bools set (z.in_set set c) (lost set bools a);
    }

few-one : (x : Bool) → cond x 1 0 ≤ 1
few-one true = omega arith
few-one false = omega arith

-- the cells of one row
abbrev row-cells : Literal → ℕ → ℕ → List Literal
row-cells never low upto = negated never ∷ record { var = low; on = true } ∷ replicate upto never

row-length : (never : Literal) (low upto : ℕ) → length (row-cells never low upto) ≡ upto + 2
row-length never low upto = let h = length-replicate upto never in grind (arith, h)

row-beyond : (never : Literal) (low upto k : ℕ) → 1 < k → k < length (row-cells never low upto) → cell_at (row-cells never low upto) k ≡ never
row-beyond never low upto zero g h = absurd (omega arith)
row-beyond never low upto (suc zero) g h = absurd (omega arith)
row-beyond never low upto (suc (suc k)) g h = let t = row-length never low upto in replicate-at upto never k (omega (arith, h, t))

row-below : (never : Literal) (low upto next : ℕ) → never.var < next → low < next → IsBelow next (row-cells never low upto)
row-below never low upto next v b l h =
    let P : Literal → Type 0 = λ k. k.var < next in
    elim (has-cases (negated never) l (record { var = low; on = true } ∷ replicate upto never) h) [
      | inl e ↦ subst P (sym e) v
      | inr r ↦ elim (has-cases (record { var = low; on = true }) l (replicate upto never) r) [ inl e ↦ subst P (sym e) b | inr q ↦ subst P (sym (replicate-has upto never l q)) v ]
    ]

one-cell : (low : ℕ) (bools : List Bool) → slice_index_or bools low false ≡ nat_le 1 (kept_from low 1 bools)
one-cell low bools = by (slice_index_or bools low false) ∙ sym (ap (nat_le 1) (kept-one low bools)) where
  by : (x : Bool) → x ≡ nat_le 1 (cond x 1 0)
  by true = refl
  by false = refl

row-means : (never : Literal) (low upto : ℕ) (bools : List Bool) → lit_true bools never ≡ false → AreCells (row-cells never low upto) low 1 bools
row-means never low upto bools f zero b = lit_true-negated bools never ∙ ap not f ∙ sym (le-true 0 (kept_from low 1 bools) (omega arith))
row-means never low upto bools f (suc zero) b = by (slice_index_or bools low false) ∙ one-cell low bools where
  by : (x : Bool) → beq x true ≡ x
  by true = refl
  by false = refl
row-means never low upto bools f (suc (suc k)) b =
    let few = few-one (slice_index_or bools low false) in
    let e = kept-one low bools in
    ap (lit_true bools) (row-beyond never low upto (suc (suc k)) (omega arith) b) ∙ f ∙ sym (le-false (suc (suc k)) (kept_from low 1 bools) (omega (arith, few, e)))

row-told : (never : Literal) (low upto : ℕ) (bools : List Bool) (set : List Literal) → has set (negated never) ≡ true
    → IsToldAs set (record { var = low; on = true }) (slice_index_or bools low false) → AreTold (row-cells never low upto) low 1 bools set
row-told never low upto bools set f t zero b = told-true set (negated never) (nat_le 0 (kept_from low 1 bools)) (le-true 0 (kept_from low 1 bools) (omega arith)) f
row-told never low upto bools set f t (suc zero) b = let P : Bool → Type 0 = IsToldAs set (record { var = low; on = true }) in subst P (one-cell low bools) t
row-told never low upto bools set f t (suc (suc k)) b =
    let few = few-one (slice_index_or bools low false) in
    let e = kept-one low bools in
    let P : Literal → Type 0 = λ l. IsToldAs set l (nat_le (suc (suc k)) (kept_from low 1 bools)) in
    subst P (sym (row-beyond never low upto (suc (suc k)) (omega arith) b))
    (told-false set never (nat_le (suc (suc k)) (kept_from low 1 bools)) (le-false (suc (suc k)) (kept_from low 1 bools) (omega (arith, few, e))) f)

-- and of one that is
pub range-row : (among : List Bool) (rows low upto next : ℕ) (never : Literal) (lines : List (List Literal)) (cells : List Literal) → IsNever never lines → never.var < next → low < rows → low < next
    → slice_index_or among low false ≡ true → cells ≡ negated never ∷ record { var = low; on = true } ∷ replicate upto never → IsRange among rows never low 1 1 cells next lines
range-row among rows low upto next never lines cells z v b w f e =
    let few : (bools : List Bool) → kept_from low 1 bools ≤ 1 = λ bools. (let t = few-one (slice_index_or bools low false) in let q = kept-one low bools in omega (arith, t, q)) in
    let P : List Literal → Type 0 = λ cs. IsRange among rows never low 1 1 cs next lines in
    subst P (sym e) (record {
      below = row-below never low upto next v w;
      beyond = row-beyond never low upto;
      few = λ bools h. few bools;
      few_told = λ set c bools a. few bools;
      means = λ bools h. row-means never low upto bools (z.in_model bools h);
      told = λ set c bools a. row-told never low upto bools set (z.in_set set c) ((a low b).0 f);
    })

-- where the one side counts no rows, the cells of the other are those of both
pub range-empty-right : (among : List Bool) (rows : ℕ) (never : Literal) (low a b most : ℕ) (cells other : List Literal) (next : ℕ) (lines : List (List Literal))
    → IsRange among rows never low a most cells next lines → IsRange among rows never (low + a) b 0 other next lines → IsRange among rows never low (a + b) most cells next lines
range-empty-right among rows never low a b most cells other next lines l r = record {
  below = l.below;
  beyond = l.beyond;
  few = λ bools h. let e = model bools h in let t = l.few bools h in omega (arith, e, t);
  few_told = λ set c bools q. let e = closed set c bools q in let t = l.few_told set c bools q in omega (arith, e, t);
  means = λ bools h k i. l.means bools h k i ∙ ap (nat_le k) (sym (model bools h));
  told = λ set c bools q k i. (let P : ℕ → Type 0 = λ n. IsToldAs set (cell_at cells k) (nat_le k n) in subst P (sym (closed set c bools q)) (l.told set c bools q k i));
} where
  model : (bools : List Bool) → IsModel lines bools → kept_from low (a + b) bools ≡ kept_from low a bools
  model bools h = let e = kept-sum low a b bools in let t = r.few bools h in omega (arith, e, t)

  closed : (set : List Literal) → Closed lines set → (bools : List Bool) → AreRowsOf among rows set bools → kept_from low (a + b) bools ≡ kept_from low a bools
  closed set c bools q = let e = kept-sum low a b bools in let t = r.few_told set c bools q in omega (arith, e, t)

pub range-empty-left : (among : List Bool) (rows : ℕ) (never : Literal) (low a b most : ℕ) (cells other : List Literal) (next : ℕ) (lines : List (List Literal))
    → IsRange among rows never low a 0 other next lines → IsRange among rows never (low + a) b most cells next lines → IsRange among rows never low (a + b) most cells next lines
range-empty-left among rows never low a b most cells other next lines l r = record {
  below = r.below;
  beyond = r.beyond;
  few = λ bools h. let e = model bools h in let t = r.few bools h in omega (arith, e, t);
  few_told = λ set c bools q. let e = closed set c bools q in let t = r.few_told set c bools q in omega (arith, e, t);
  means = λ bools h k i. r.means bools h k i ∙ ap (nat_le k) (sym (model bools h));
  told = λ set c bools q k i. (let P : ℕ → Type 0 = λ n. IsToldAs set (cell_at cells k) (nat_le k n) in subst P (sym (closed set c bools q)) (r.told set c bools q k i));
} where
  model : (bools : List Bool) → IsModel lines bools → kept_from low (a + b) bools ≡ kept_from (low + a) b bools
  model bools h = let e = kept-sum low a b bools in let t = l.few bools h in omega (arith, e, t)

  closed : (set : List Literal) → Closed lines set → (bools : List Bool) → AreRowsOf among rows set bools → kept_from low (a + b) bools ≡ kept_from (low + a) b bools
  closed set c bools q = let e = kept-sum low a b bools in let t = l.few_told set c bools q in omega (arith, e, t)
