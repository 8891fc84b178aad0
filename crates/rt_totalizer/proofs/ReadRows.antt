-- The Bools of the rows that a set of literals decides.
use Rattle.std.proofs.Common.{◌≡◌, ℕ, zero, suc, ◌<◌, ◌≤◌, nat_lt, Bool, true, false, ◌&&◌, inl, inr, List, [], ◌∷◌, ◌++◌, length, length-append, slice_index_or, refl, sym, ap, subst, ◌∙◌, arith, rules}
use Rattle.rt_clause.specs.Literal.{Literal}
use Rattle.rt_clause.specs.Lists.{has, Decides}
use Rattle.rt_clause.proofs.Bools.{bool-cases}
use Rattle.rt_clause.proofs.GateLaws.{IsDecided}
use Rattle.rt_clause.proofs.Extending.{index-front, index-end}
use Rattle.rt_totalizer.specs.Cells.{IsToldAs, AreRowsOf}

-- a row that is among these, and that the set has
abbrev row-in : List Bool → List Literal → ℕ → Bool
row-in among set row = slice_index_or among row false && has set (record { var = row; on = true })

abbrev pub rows-in : List Bool → List Literal → ℕ → List Bool
rows-in among set zero = []
rows-in among set (suc n) = rows-in among set n ++ row-in among set n ∷ []

rows-length : (among : List Bool) (set : List Literal) (n : ℕ) → length (rows-in among set n) ≡ n
rows-length among set zero = refl
rows-length among set (suc n) = let h = rows-length among set n in let e = length-append (rows-in among set n) (row-in among set n ∷ []) in omega (arith, h, e)

rows-at : (among : List Bool) (set : List Literal) (n row : ℕ) → row < n → slice_index_or (rows-in among set n) row false ≡ row-in among set row
rows-at among set zero row h = absurd (omega arith)
rows-at among set (suc n) row h =
    let t = rows-length among set n in
    let more = rows-in among set n ++ row-in among set n ∷ [] in
    elim (bool-cases (nat_lt row n)) [
      | inl y ↦ (let b : row < n = search rules in index-front (rows-in among set n) (row-in among set n ∷ []) row (omega (arith, b, t)) ∙ rows-at among set n row b)
      | inr y ↦ (let g : n ≤ row = search rules in let e : row ≡ n = omega (arith, g, h) in
          ap (λ (v : ℕ). slice_index_or more v false) (e ∙ sym t) ∙ index-end (rows-in among set n) (row-in among set n) ∙ ap (row-in among set) (sym e))
    ]

pub rows-of : (among : List Bool) (rows : ℕ) (set : List Literal) → Decides set rows → AreRowsOf among rows set (rows-in among set rows)
rows-of among rows set d row b = (
  λ f. (let P : Bool → Type 0 = IsToldAs set (record { var = row; on = true }) in
      subst P (sym (rows-at among set rows row b ∙ ap (λ x. x && has set (record { var = row; on = true })) f)) (told (has set (record { var = row; on = true })) refl (d row b).0 (d row b).1)),
  λ f. rows-at among set rows row b ∙ ap (λ x. x && has set (record { var = row; on = true })) f,
) where
  told : (x : Bool) → has set (record { var = row; on = true }) ≡ x → (on : Bool) → has set (record { var = row; on = on }) ≡ true → IsToldAs set (record { var = row; on = true }) x
  told true e on h = e
  told false e true h = cc
  told false e false h = h

-- what is told is decided
pub told-decides : (set : List Literal) (l : Literal) (b : Bool) → IsToldAs set l b → IsDecided set l
told-decides set l true h = inl h
told-decides set l false h = inr h
