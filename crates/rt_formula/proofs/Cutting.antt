-- Choices that are cut to a set of rows.
use Rattle.std.proofs.Common.{◌≡◌, ℕ, zero, suc, ◌+◌, ◌≤◌, Bool, true, false, cond, List, [], ◌∷◌, drop, length, refl, ap, arith, ◌∙◌}
use Rattle.std.proofs.lemmas.List.Sums.{sum_by-cons}
use Rattle.rt_value.specs.Keep.{size}
use Rattle.rt_formula.specs.Shared.{bool_at}
use Rattle.rt_formula.specs.Cut.{cut}

pub cut-length : (keep set : List Bool) → length (cut keep set) ≡ length keep
cut-length [] set = refl
cut-length (b ∷ keep) [] = let r = cut-length keep [] in grind (arith, r)
cut-length (b ∷ keep) (c ∷ set) = let r = cut-length keep set in grind (arith, r)

-- a row that is in the set is kept as before
pub cut-in : (keep set : List Bool) (v : ℕ) → bool_at set v ≡ true → bool_at (cut keep set) v ≡ bool_at keep v
cut-in [] set v h = refl
cut-in (b ∷ keep) [] v h = absurd (cc)
cut-in (true ∷ keep) (c ∷ set) zero h = h
cut-in (false ∷ keep) (c ∷ set) zero h = refl
cut-in (b ∷ keep) (c ∷ set) (suc v) h = cut-in keep set v h

-- one that is not is not kept
pub cut-out : (keep set : List Bool) (v : ℕ) → bool_at set v ≡ false → bool_at (cut keep set) v ≡ false
cut-out [] set v h = refl
cut-out (b ∷ keep) [] zero h = refl
cut-out (b ∷ keep) [] (suc v) h = cut-out keep [] v refl
cut-out (true ∷ keep) (c ∷ set) zero h = h
cut-out (false ∷ keep) (c ∷ set) zero h = refl
cut-out (b ∷ keep) (c ∷ set) (suc v) h = cut-out keep set v h

drop-none : (k : ℕ) → drop {A = Bool} k [] ≡ []
drop-none zero = refl
drop-none (suc k) = refl

pub cut-drop : (n : ℕ) (keep set : List Bool) → drop n (cut keep set) ≡ cut (drop n keep) (drop n set)
cut-drop zero keep set = refl
cut-drop (suc n) [] set = refl
cut-drop (suc n) (b ∷ keep) [] = cut-drop n keep [] ∙ ap (cut (drop n keep)) (drop-none n)
cut-drop (suc n) (b ∷ keep) (c ∷ set) = cut-drop n keep set

one-more : (xs : List Bool) → size (true ∷ xs) ≡ 1 + size xs
one-more xs = sum_by-cons (λ b. cond b 1 0) true xs

none-more : (xs : List Bool) → size (false ∷ xs) ≡ 0 + size xs
none-more xs = sum_by-cons (λ b. cond b 1 0) false xs

less : (xs ys : List Bool) → size xs ≤ size ys → size (false ∷ xs) ≤ size (true ∷ ys)
less xs ys h = let e = one-more ys in let f = none-more xs in omega (arith, h, e, f)

both : (xs ys : List Bool) → size xs ≤ size ys → size (true ∷ xs) ≤ size (true ∷ ys)
both xs ys h = let e = one-more ys in let f = one-more xs in omega (arith, h, e, f)

same : (xs ys : List Bool) → size xs ≤ size ys → size (false ∷ xs) ≤ size (false ∷ ys)
same xs ys h = let e = none-more ys in let f = none-more xs in omega (arith, h, e, f)

-- a cut choice has no more rows
pub cut-size : (keep set : List Bool) → size (cut keep set) ≤ size keep
cut-size [] set = omega arith
cut-size (true ∷ keep) [] = less (cut keep []) keep (cut-size keep [])
cut-size (false ∷ keep) [] = same (cut keep []) keep (cut-size keep [])
cut-size (true ∷ keep) (true ∷ set) = both (cut keep set) keep (cut-size keep set)
cut-size (true ∷ keep) (false ∷ set) = less (cut keep set) keep (cut-size keep set)
cut-size (false ∷ keep) (c ∷ set) = same (cut keep set) keep (cut-size keep set)
