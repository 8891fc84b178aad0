-- The first Bools of a list.
use Rattle.std.proofs.Common.{◌≡◌, ℕ, zero, suc, ◌<◌, ◌≤◌, Bool, false, List, [], ◌∷◌, take, length, slice_index_or, refl, arith}

pub take-index : (n : ℕ) (xs : List Bool) (v : ℕ) → v < n → slice_index_or (take n xs) v false ≡ slice_index_or xs v false
take-index zero xs v h = absurd (omega arith)
take-index (suc n) [] v h = refl
take-index (suc n) (x ∷ xs) zero h = refl
take-index (suc n) (x ∷ xs) (suc v) h = take-index n xs v (omega arith)

pub take-length : (n : ℕ) (xs : List Bool) → n ≤ length xs → length (take n xs) ≡ n
take-length zero xs h = refl
take-length (suc n) [] h = absurd (omega arith)
take-length (suc n) (x ∷ xs) h = let r = take-length n xs (omega arith) in grind (arith, r)
