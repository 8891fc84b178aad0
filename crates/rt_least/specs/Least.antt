-- The least choice of rows at which a formula is true.
use Rattle.std.specs.Prelude.{◌≡◌, ℕ, ◌<◌, ◌≤◌, ◌^◌, Bool, true, false, IsTrue, List, length, Option, IfSome, IsSomeAnd}
use Rattle.rt_value.specs.Keep.{size, ComesBefore}
use Rattle.rt_clause.specs.Literal.{Literal}
use Rattle.rt_formula.specs.Cut.{cut}
use Rattle.rt_formula.specs.Shared.{Shared, val}
use Rattle.rt_least.specs.Nogoods.{IsSpentBy}
use Rattle.rt_least.specs.declared.best.Best.{Best}
use Rattle.rt_least.specs.declared.best.Best.TheVariants.{Least, Never, Spent}

-- a choice of the rows at which the goal is true
abbrev pub IsGoal : Shared → ℕ → List Bool → Type 0
IsGoal d goal keep = (length keep ≡ d.rows) × (val d keep goal ≡ true)

-- wherever the goal is true, it is true where no row outside of the cone is kept
abbrev pub IsEnough : Shared → ℕ → List Bool → Type 0
IsEnough d goal cone = (keep : List Bool) → IsGoal d goal keep → val d (cut keep cone) goal ≡ true

-- no target has fewer rows
abbrev pub HasFewest : (List Bool → Type 0) → List Bool → Type 0
HasFewest IsTarget keep = (other : List Bool) → IsTarget other → size keep ≤ size other

-- a target; none has fewer rows, and none of as many rows comes before it
pub record IsLeast (IsTarget : List Bool → Type 0) (keep : List Bool) : Type 0 where
  pub is_target : IsTarget keep
  pub least : HasFewest IsTarget keep
  pub first : (other : List Bool) → IsTarget other → size other ≡ size keep → ComesBefore other keep → ⊥

-- the goal is true at no choice
abbrev pub IsNever : Shared → ℕ → Type 0
IsNever d goal = (keep : List Bool) → length keep ≡ d.rows → val d keep goal ≡ false

-- The budget is below the number of choices. The best choice, if there is one, is a target. If it
-- is said to have the fewest rows, it is there and has. There are as many nogoods as the budget
-- says.
pub record IsSpentBest (rows : ℕ) (IsTarget : List Bool → Type 0) (budget : ℕ) (best : Option (List Bool)) (least : Bool) (nogoods : List (List Literal)) : Type 0 where
  pub small : budget < 2 ^ rows
  pub best_is : IfSome best IsTarget
  pub least_is : IsTrue least → IsSomeAnd best (HasFewest IsTarget)
  pub spent : IsSpentBy rows IsTarget best least budget nogoods

abbrev pub IsBest : Shared → ℕ → Option ℕ → Best → Type 0
IsBest d goal budget (Least keep) = IsLeast (IsGoal d goal) keep
IsBest d goal budget Never = IsNever d goal
IsBest d goal budget (Spent s) = IsSomeAnd budget (λ b. IsSpentBest d.rows (IsGoal d goal) b s.best s.least s.nogoods)
