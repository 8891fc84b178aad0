-- What is searched for: choices within the cone at which the goal is true.
use Rattle.std.specs.Prelude.{◌≡◌, ℕ, zero, suc, ◌+◌, ◌<◌, nat_le, Bool, true, false, cond, ◌&&◌, List, [], ◌∷◌, ◌++◌, length, Option, IsSomeAnd}
use Rattle.rt_clause.specs.Literal.{Literal}
use Rattle.rt_clause.specs.Lists.{has, line_at}
use Rattle.rt_formula.specs.Shared.{Shared, bool_at, val}
use Rattle.rt_least.specs.Least.{IsLeast, IsSpentBest}
use Rattle.rt_least.specs.declared.best.Best.{Best}
use Rattle.rt_least.specs.declared.best.Best.TheVariants.{Least, Never, Spent}

-- no row outside of the cone is kept
abbrev pub IsWithin : ℕ → List Bool → List Bool → Type 0
IsWithin rows cone keep = (v : ℕ) → v < rows → bool_at cone v ≡ false → bool_at keep v ≡ false

abbrev pub IsSought : Shared → ℕ → List Bool → List Bool → Type 0
IsSought d goal cone keep = (length keep ≡ d.rows) × (val d keep goal ≡ true) × IsWithin d.rows cone keep

-- that a row is not kept
abbrev pub not_kept : ℕ → Literal
not_kept v = record { var = v; on = false }

-- for each row outside of the cone, from a place on, the clause that it is not kept
abbrev pub left_out : ℕ → List Bool → List (List Literal)
left_out place [] = []
left_out place (true ∷ cone) = left_out (place + 1) cone
left_out place (false ∷ cone) = (not_kept place ∷ []) ∷ left_out (place + 1) cone

-- for each row of the cone from one place to before another, the literal that it is not kept
abbrev pub not_kept_between : List Bool → ℕ → ℕ → List Literal
not_kept_between cone place zero = []
not_kept_between cone place (suc end) = cond (nat_le place end && bool_at cone end) (not_kept_between cone place end ++ not_kept end ∷ []) (not_kept_between cone place end)

-- no clause has the literal that a row outside of the cone is not kept
abbrev pub AreInside : ℕ → List Bool → List (List Literal) → Type 0
AreInside rows cone clauses = (i : ℕ) → i < length clauses → (v : ℕ) → v < rows → bool_at cone v ≡ false → has (line_at clauses i) (not_kept v) ≡ false

-- what is known of the choices within the cone where the budget is spent
abbrev pub IsSpentWithin : Shared → ℕ → List Bool → ℕ → Option (List Bool) → Bool → List (List Literal) → Type 0
IsSpentWithin d goal cone budget best least nogoods = IsSpentBest d.rows (IsSought d goal cone) budget best least nogoods × AreInside d.rows cone nogoods

-- what is found, where only choices within the cone are looked at
abbrev pub IsBestWithin : Shared → ℕ → List Bool → Option ℕ → Best → Type 0
IsBestWithin d goal cone budget (Least keep) = IsLeast (IsSought d goal cone) keep
IsBestWithin d goal cone budget Never = (keep : List Bool) → length keep ≡ d.rows → IsWithin d.rows cone keep → val d keep goal ≡ false
IsBestWithin d goal cone budget (Spent s) = IsSomeAnd budget (λ b. IsSpentWithin d goal cone b s.best s.least s.nogoods)
