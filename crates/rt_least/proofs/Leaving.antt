-- A choice that a row is left out of and put back.
use Rattle.std.proofs.Common.{◌≡◌, ℕ, zero, suc, Bool, true, false, List, [], ◌∷◌, length, slice_set, refl, sym, ap, subst, ◌∙◌}
use Rattle.rt_formula.specs.Shared.{Shared, bool_at}
use Rattle.rt_least.specs.Sought.{IsSought}

off-on : (xs : List Bool) (place : ℕ) → bool_at xs place ≡ true → slice_set (slice_set xs place false) place true ≡ xs
off-on [] place h = refl
off-on (x ∷ xs) zero h = ap (λ b. b ∷ xs) (sym h)
off-on (x ∷ xs) (suc place) h = ap (λ (ys : List Bool). x ∷ ys) (off-on xs place h)

-- the row is kept again
again-is : (keep less again : List Bool) (place : ℕ) → bool_at keep place ≡ true → less ≡ slice_set keep place false → again ≡ slice_set less place true → again ≡ keep
again-is keep less again place k e f = f ∙ ap (λ (xs : List Bool). slice_set xs place true) e ∙ off-on keep place k

pub sought-again : (d : Shared) (goal : ℕ) (cone keep less again : List Bool) (place : ℕ) → IsSought d goal cone keep → bool_at keep place ≡ true → less ≡ slice_set keep place false → again ≡ slice_set less place true → IsSought d goal cone again
sought-again d goal cone keep less again place s k e f =
    let Q : List Bool → Type 0 = IsSought d goal cone in
    subst Q (sym (again-is keep less again place k e f)) s

pub length-again : (keep less again : List Bool) (place : ℕ) → bool_at keep place ≡ true → less ≡ slice_set keep place false → again ≡ slice_set less place true → length again ≡ length keep
length-again keep less again place k e f = ap length (again-is keep less again place k e f)
