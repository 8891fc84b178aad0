-- The cells of all rows are the outputs.
use Rattle.std.proofs.Common.{◌≡◌, ℕ, zero, suc, ◌+◌, ◌-◌, nat_le, Bool, true, false, cond, List, [], ◌∷◌, length, slice_index_or, fold, refl, sym, ap, subst, ◌∙◌, arith}
use Rattle.rt_value.specs.Keep.{size}
use Rattle.rt_clause.specs.Literal.{Literal}
use Rattle.rt_clause.specs.Gates.{AgreeBelow}
use Rattle.rt_totalizer.specs.Cells.{kept_below, AreCells, IsRange}
use Rattle.rt_totalizer.specs.Outputs.{CountsRows}
use Rattle.rt_totalizer.proofs.Ranges.{kept-all}

-- how many rows a choice keeps
pub kept-agrees : (i : ℕ) (xs ys : List Bool) → AgreeBelow i xs ys → kept_below i xs ≡ kept_below i ys
kept-agrees zero xs ys a = refl
kept-agrees (suc i) xs ys a =
    let h = kept-agrees i xs ys (λ v b. a v (omega (arith, b))) in
    ap (λ b. cond b (kept_below i xs + 1) (kept_below i xs)) (a i (omega arith)) ∙ ap (λ k. cond (slice_index_or ys i false) (k + 1) k) h

kept-first : (i : ℕ) (b : Bool) (xs : List Bool) → kept_below (suc i) (b ∷ xs) ≡ cond b 1 0 + kept_below i xs
kept-first zero true xs = refl
kept-first zero false xs = refl
kept-first (suc i) b xs =
    ap (λ k. cond (slice_index_or xs i false) (k + 1) k) (kept-first i b xs) ∙ by (slice_index_or xs i false) (cond b 1 0) (kept_below i xs) where
      by : (x : Bool) (c k : ℕ) → cond x (c + k + 1) (c + k) ≡ c + cond x (k + 1) k
      by true c k = omega arith
      by false c k = refl

fold-shift : (a : ℕ) (xs : List Bool) → fold (λ n x. n + cond x 1 0) a xs ≡ a + fold (λ n x. n + cond x 1 0) 0 xs
fold-shift a [] = omega arith
fold-shift a (x ∷ xs) = let p = fold-shift (a + cond x 1 0) xs in let q = fold-shift (0 + cond x 1 0) xs in omega (arith, p, q)

pub kept-size : (keep : List Bool) → kept_below (length keep) keep ≡ size keep
kept-size [] = refl
kept-size (b ∷ xs) =
    let q = fold-shift (0 + cond b 1 0) xs in
    ap (λ k. kept_below k (b ∷ xs)) (let e : length (b ∷ xs) ≡ suc (length xs) = grind arith in e) ∙ kept-first (length xs) b xs ∙ ap (λ k. cond b 1 0 + k) (kept-size xs) ∙ omega (arith, q)

pub outputs-count : (among : List Bool) (rows : ℕ) (never : Literal) (most : ℕ) (cells : List Literal) (next : ℕ) (lines : List (List Literal)) (l : Literal) (outs : List Literal)
    → IsRange among rows never 0 rows most cells next lines → cells ≡ l ∷ outs → CountsRows rows lines outs
outputs-count among rows never most cells next lines l outs r e keep bools k a h j s b =
    let i = j - 1 in
    let s : suc i ≡ j = omega (arith, s) in
    let C : List Literal → Type 0 = λ cs. AreCells cs 0 rows bools in
    let t = subst C e (r.means bools h) (suc i) (omega (arith, b, s)) in
    t ∙ ap (nat_le (suc i)) (kept-all rows bools ∙ sym (kept-agrees rows keep bools a) ∙ ap (λ r. kept_below r keep) (sym k) ∙ kept-size keep) ∙ ap (λ r. nat_le r (size keep)) s
