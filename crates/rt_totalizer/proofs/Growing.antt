-- How the counts of ranges grow.
use Rattle.std.proofs.Common.{◌≡◌, ℕ, zero, suc, ◌+◌, ◌<◌, ◌≤◌, Bool, true, false, not, inl, inr, List, [], ◌∷◌, ◌++◌, replicate, length, slice_index_or, sym, ap, subst, ◌∙◌, arith}
use Rattle.rt_clause.specs.Literal.{Literal, negated}
use Rattle.rt_clause.specs.Lists.{has, IsMet}
use Rattle.rt_clause.specs.Models.{lit_true, IsModel}
use Rattle.rt_clause.specs.Gates.{gate, Extends}
use Rattle.rt_clause.proofs.Literals.{has-cases, negated-twice}
use Rattle.rt_clause.proofs.Following.{lit_true-negated}
use Rattle.rt_clause.proofs.EachLine.{each-back, each-head}
use Rattle.rt_clause.proofs.Extending.{extends-none, extends-on, extends-gate, gate-means, model-older}
use Rattle.rt_totalizer.specs.Cells.{first_cells, kept_from, IsLeftOut, IsRange, IsNever, IsToldAs, AreCells, AreTold}
use Rattle.rt_totalizer.specs.Merging.{IsMerging}
use Rattle.rt_totalizer.specs.Sums.{IsReady, IsCounted, IsSum}
use Rattle.rt_totalizer.proofs.Rows.{le-true}
use Rattle.rt_totalizer.proofs.Ranges.{kept-sum, never-on, range-on, range-output, range-never, range-none, range-out, range-row, range-empty-right, range-empty-left}
use Rattle.rt_totalizer.proofs.Merging.{merged}

-- what stays over lines that go on
pub never-over : (never : Literal) (lines : List (List Literal)) (n : ℕ) (new : List (List Literal)) (m : ℕ) → Extends lines n new m → IsNever never lines → IsNever never new
never-over never lines n new m e h = let P : List (List Literal) → Type 0 = IsNever never in subst P (sym e.lines) (never-on never lines e.more h)

range-over : (among : List Bool) (rows : ℕ) (never : Literal) (low a most : ℕ) (cells : List Literal) (n m : ℕ) (lines new : List (List Literal)) → Extends lines n new m
    → IsRange among rows never low a most cells n lines → IsRange among rows never low a most cells m new
range-over among rows never low a most cells n m lines new e r =
    let P : List (List Literal) → Type 0 = IsRange among rows never low a most cells m in
    subst P (sym e.lines) (range-on among rows never low a most cells n m lines e.more e.wider r)

out-over : (among : List Bool) (row : ℕ) (lines : List (List Literal)) (n : ℕ) (new : List (List Literal)) (m : ℕ) → Extends lines n new m → IsLeftOut among row lines → IsLeftOut among row new
out-over among row lines n new m e out off bools h = let M : List (List Literal) → Type 0 = λ ls. IsModel ls bools in out off bools (model-older lines e.more bools (subst M e.lines h))

pub ready-over : (among : List Bool) (never : Literal) (n m : ℕ) (lines new : List (List Literal)) → Extends lines n new m → IsReady among never n lines → IsReady among never m new
ready-over among never n m lines new e r = record {
  rows = (let w = e.wider in let b = r.rows in omega (arith, w, b));
  out = λ row b. out-over among row lines n new m e (r.out row b);
  never_true = never-over never lines n new m e r.never_true;
  below = (let w = e.wider in let b = r.below in omega (arith, w, b));
}

-- the first cell of two ranges together
range-first : (among : List Bool) (rows : ℕ) (never : Literal) (low a b most_left most_right : ℕ) (left right : List Literal) (next : ℕ) (lines : List (List Literal)) → IsNever never lines → never.var < next
    → IsRange among rows never low a most_left left next lines → IsRange among rows never (low + a) b most_right right next lines
    → IsRange among rows never low (a + b) (most_left + most_right) (negated never ∷ []) next lines
range-first among rows never low a b most_left most_right left right next lines z v l r = record {
  below = λ k h. elim (has-cases (negated never) k [] h) [ inl e ↦ (let P : Literal → Type 0 = λ j. j.var < next in subst P (sym e) v) | inr c ↦ absurd (cc) ];
  beyond = λ k g h. absurd (omega arith);
  few = λ bools h. (let s = kept-sum low a b bools in let x = l.few bools h in let y = r.few bools h in omega (arith, s, x, y));
  few_told = λ set c bools o. (let s = kept-sum low a b bools in let x = l.few_told set c bools o in let y = r.few_told set c bools o in omega (arith, s, x, y));
  means = λ bools h. first-means bools (z.in_model bools h);
  told = λ set c bools o. first-told set bools (z.in_set set c);
} where
  first-means : (bools : List Bool) → lit_true bools never ≡ false → AreCells (negated never ∷ []) low (a + b) bools
  first-means bools f zero h = lit_true-negated bools never ∙ ap not f ∙ sym (le-true 0 (kept_from low (a + b) bools) (omega arith))
  first-means bools f (suc k) h = absurd (omega arith)

  first-told : (set : List Literal) (bools : List Bool) → has set (negated never) ≡ true → AreTold (negated never ∷ []) low (a + b) bools set
  first-told set bools f zero h = let P : Bool → Type 0 = IsToldAs set (negated never) in subst P (sym (le-true 0 (kept_from low (a + b) bools) (omega arith))) f
  first-told set bools f (suc k) h = absurd (omega arith)

pub sum-first : (never : Literal) (left : List Literal) (most_left : ℕ) (right : List Literal) (most_right next : ℕ) (lines : List (List Literal)) → IsNever never lines → never.var < next
    → IsSum never left most_left right most_right next lines (negated never ∷ []) (most_left + most_right) next lines
sum-first never left most_left right most_right next lines z v among low a b w l r = record {
  over = extends-none lines next;
  range = range-first among (length among) never low a b most_left most_right left right next lines z v l r;
}

-- one output more
pub sum-output : (never : Literal) (left : List Literal) (most_left : ℕ) (right : List Literal) (most_right next : ℕ) (lines : List (List Literal)) (cells : List Literal) (m : ℕ) (now clauses : List (List Literal)) (k : ℕ) (out : Literal)
    → IsNever never lines → never.var < next → IsSum never left most_left right most_right next lines cells (most_left + most_right) m now
    → length cells ≡ k → 1 ≤ k → k < length left → k < length right → k ≤ most_left + most_right → out ≡ record { var = m; on = true } → IsMerging never left right most_left most_right k out clauses
    → IsSum never left most_left right most_right next lines (cells ++ out ∷ []) (most_left + most_right) (m + 1) (now ++ clauses)
sum-output never left most_left right most_right next lines cells m now clauses k out z v sum len some kl kr km oe merging among low a b w l r =
    let s = sum among low a b w l r in
    let wide = s.over.wider in
    let rows = length among in
    let o = merged among rows never low a b most_left most_right k left right m now clauses out (never-over never lines next now m s.over z) (omega (arith, wide, v))
    (range-over among rows never low a most_left left next m lines now s.over l) (range-over among rows never (low + a) b most_right right next m lines now s.over r)
    (omega (arith, wide, w)) some kl kr km oe merging in
    record {
      over = extends-on lines now (now ++ clauses) next m (m + 1) s.over o.over;
      range = range-output among rows never low (a + b) (most_left + most_right) k cells m now clauses out s.range len km oe o;
    }

-- beyond so many rows
pub sum-never : (never : Literal) (left : List Literal) (most_left : ℕ) (right : List Literal) (most_right next : ℕ) (lines : List (List Literal)) (cells : List Literal) (m : ℕ) (now : List (List Literal)) (k : ℕ)
    → IsNever never lines → never.var < next → IsSum never left most_left right most_right next lines cells (most_left + most_right) m now → length cells ≡ k → most_left + most_right < k
    → IsSum never left most_left right most_right next lines (cells ++ never ∷ []) (most_left + most_right) m now
sum-never never left most_left right most_right next lines cells m now k z v sum len more among low a b w l r =
    let s = sum among low a b w l r in
    let wide = s.over.wider in
    record {
      over = s.over;
      range = range-never among (length among) never low (a + b) (most_left + most_right) k cells m now (never-over never lines next now m s.over z) (omega (arith, wide, v)) s.range len more;
    }

-- where one side can keep no row the other one counts both
pub sum-left : (never : Literal) (left : List Literal) (most_left : ℕ) (right : List Literal) (most_right next : ℕ) (lines : List (List Literal)) → most_right ≡ 0
    → IsSum never left most_left right most_right next lines left most_left next lines
sum-left never left most_left right most_right next lines e among low a b w l r = record {
  over = extends-none lines next;
  range = (let P : ℕ → Type 0 = λ x. IsRange among (length among) never (low + a) b x right next lines in range-empty-right among (length among) never low a b most_left left right next lines l (subst P e r));
}

pub sum-right : (never : Literal) (left : List Literal) (most_left : ℕ) (right : List Literal) (most_right next : ℕ) (lines : List (List Literal)) → most_left ≡ 0
    → IsSum never left most_left right most_right next lines right most_right next lines
sum-right never left most_left right most_right next lines e among low a b w l r = record {
  over = extends-none lines next;
  range = (let P : ℕ → Type 0 = λ x. IsRange among (length among) never low a x left next lines in range-empty-left among (length among) never low a b most_right right left next lines (subst P e l) r);
}

-- two ranges that are counted one after the other, and their sum
pub counted-sum : (among : List Bool) (never : Literal) (low a middle b n : ℕ) (left : List Literal) (most_left : ℕ) (right : List Literal) (most_right : ℕ) (cells : List Literal) (most : ℕ) (n0 : ℕ) (l0 : List (List Literal)) (n1 : ℕ) (l1 : List (List Literal)) (n2 : ℕ) (l2 : List (List Literal)) (n3 : ℕ) (l3 : List (List Literal))
    → length among ≤ n0 → middle ≡ low + a → n ≡ a + b → IsCounted among never low a most_left left n0 l0 n1 l1 → IsCounted among never middle b most_right right n1 l1 n2 l2
    → IsSum never left most_left right most_right n2 l2 cells most n3 l3 → IsCounted among never low n most cells n0 l0 n3 l3
counted-sum among never low a middle b n left most_left right most_right cells most n0 l0 n1 l1 n2 l2 n3 l3 w me ne l r sum =
    let rows = length among in
    let x = l.over.wider in
    let y = r.over.wider in
    let P : ℕ → Type 0 = λ v. IsRange among rows never v b most_right right n2 l2 in
    let Q : ℕ → Type 0 = λ v. IsCounted among never low v most cells n0 l0 n3 l3 in
    let s = sum among low a b (omega (arith, w, x, y)) (range-over among rows never low a most_left left n1 n2 l1 l2 r.over l.range) (subst P me r.range) in
    subst Q (sym ne) (record {
      over = extends-on l0 l2 l3 n0 n2 n3 (extends-on l0 l1 l2 n0 n1 n2 l.over r.over) s.over;
      range = s.range;
    })

-- one row
pub counted-row : (among : List Bool) (never : Literal) (low n upto most : ℕ) (row : Literal) (cells : List Literal) (next : ℕ) (lines : List (List Literal)) → IsReady among never next lines
    → low < length among → n ≡ 1 → slice_index_or among low false ≡ true → row ≡ record { var = low; on = true } → cells ≡ negated never ∷ row ∷ replicate upto never → most ≡ 1
    → IsCounted among never low n most cells next lines next lines
counted-row among never low n upto most row cells next lines ready b ne f re e me =
    let P : ℕ → ℕ → Type 0 = λ v m. IsRange among (length among) never low v m cells next lines in
    let P1 : ℕ → Type 0 = λ m. P 1 m in
    let P2 : ℕ → Type 0 = λ v. P v most in
    let w = ready.rows in
    record {
      over = extends-none lines next;
      range = subst P2 (sym ne) (subst P1 (sym me) (range-row among (length among) low upto next never lines cells ready.never_true ready.below b (omega (arith, b, w)) f
          (e ∙ ap (λ (r : Literal). negated never ∷ r ∷ replicate upto never) re)));
    }

-- a row that is not among these
pub counted-out : (among : List Bool) (never : Literal) (low n upto most : ℕ) (cells : List Literal) (next : ℕ) (lines : List (List Literal)) → IsReady among never next lines
    → low < length among → n ≡ 1 → slice_index_or among low false ≡ false → cells ≡ first_cells (negated never) upto → most ≡ 0
    → IsCounted among never low n most cells next lines next lines
counted-out among never low n upto most cells next lines ready b ne f e me =
    let P1 : List Literal → Type 0 = λ cs. IsRange among (length among) never low 1 0 cs next lines in
    let P2 : ℕ → Type 0 = λ m. IsRange among (length among) never low 1 m cells next lines in
    let P3 : ℕ → Type 0 = λ v. IsRange among (length among) never low v most cells next lines in
    record {
      over = extends-none lines next;
      range = subst P3 (sym ne) (subst P2 (sym me) (subst P1 (sym e) (range-out among (length among) low upto next never lines ready.never_true ready.below b f (ready.out low b))));
    }

-- no rows
pub counted-none : (among : List Bool) (never : Literal) (upto most : ℕ) (cells : List Literal) (next : ℕ) (lines : List (List Literal)) → IsReady among never next lines
    → cells ≡ first_cells (negated never) upto → most ≡ 0 → IsCounted among never 0 0 most cells next lines next lines
counted-none among never upto most cells next lines ready e me =
    let P1 : List Literal → Type 0 = λ cs. IsRange among (length among) never 0 0 0 cs next lines in
    let P2 : ℕ → Type 0 = λ m. IsRange among (length among) never 0 0 m cells next lines in
    record {
      over = extends-none lines next;
      range = subst P2 (sym me) (subst P1 (sym e) (range-none among (length among) never 0 upto next lines ready.never_true ready.below));
    }

-- a clause of one literal makes it true
met-one : (set : List Literal) (l : Literal) → IsMet set (l ∷ []) → has set l ≡ true
met-one set l met = elim met [
  | inl x ↦ ap (has set) (sym (one x.0 x.1)) ∙ x.2
  | inr y ↦ absurd (y.4 (one y.0 y.2 ∙ sym (one y.1 y.3)))
] where
  one : (k : Literal) → has (l ∷ []) k ≡ true → k ≡ l
  one k h = elim (has-cases l k [] h) [ inl e ↦ e | inr c ↦ absurd (cc) ]

-- the gate of nothing makes its output true, and so its negation never
never-gate : (never : Literal) (lines : List (List Literal)) → IsNever never (lines ++ gate (negated never) [])
never-gate never lines = record {
  in_model = λ bools m. (let P : Literal → Type 0 = λ l. lit_true bools l ≡ false in
      subst P (negated-twice never) (lit_true-negated bools (negated never) ∙ ap not (gate-means lines (negated never) [] bools m)));
  in_set = λ set c. met-one set (negated never) (each-head (IsMet set) (negated never ∷ []) [] (each-back (IsMet set) lines (gate (negated never) []) c.met));
}

pub extends-never : (never : Literal) (lines : List (List Literal)) (n : ℕ) → never.var ≡ n → Extends lines n (lines ++ gate (negated never) []) (n + 1)
extends-never never lines n e = extends-gate lines n (negated never) [] e (λ l h. absurd (cc))

pub ready-first : (among : List Bool) (never : Literal) (n : ℕ) (lines : List (List Literal)) → never.var ≡ n → length among ≤ n → ((row : ℕ) → row < length among → IsLeftOut among row lines)
    → IsReady among never (n + 1) (lines ++ gate (negated never) [])
ready-first among never n lines e w out = record {
  rows = omega (arith, w);
  out = λ row b. out-over among row lines n (lines ++ gate (negated never) []) (n + 1) (extends-never never lines n e) (out row b);
  never_true = never-gate never lines;
  below = omega (arith, e);
}
