-- What a search knows where its budget is spent: clauses that are true at each choice which it was
-- looking for.
use Rattle.std.specs.Prelude.{◌≡◌, ℕ, ◌<◌, ◌≤◌, Bool, true, false, List, [], ◌∷◌, ◌++◌, length, Option, None, IfSome}
use Rattle.rt_value.specs.Keep.{size}
use Rattle.rt_clause.specs.Literal.{Literal}
use Rattle.rt_clause.specs.Lists.{has, line_at, Fresh, IsBelow}
use Rattle.rt_clause.specs.Models.{clause_true}

-- a number is below another, or at most as great where the other is known to be the least
abbrev pub IsFewer : Bool → ℕ → ℕ → Type 0
IsFewer false n most = n < most
IsFewer true n most = n ≤ most

-- it has fewer rows than the best choice, where there is one; or at most as many, where the best
-- is known to have the fewest
abbrev pub IsBetter : Option (List Bool) → Bool → List Bool → Type 0
IsBetter best least keep = IfSome best (λ b. IsFewer least (size keep) (size b))

-- a clause over the rows, one of whose literals is true at each better choice that is a target
pub record IsNogood (rows : ℕ) (IsTarget : List Bool → Type 0) (best : Option (List Bool)) (least : Bool) (c : List Literal) : Type 0 where
  pub some : 0 < length c
  pub below : IsBelow rows c
  pub holds : (keep : List Bool) → IsTarget keep → IsBetter best least keep → clause_true keep c ≡ true

-- each clause is fresh over those before it, without an assumption
abbrev pub AreFreshAlone : List (List Literal) → List (List Literal) → Type 0
AreFreshAlone before [] = Unit {0}
AreFreshAlone before (c ∷ cs) = Fresh before None c × AreFreshAlone (before ++ c ∷ []) cs

-- it has each literal of the other one
abbrev pub Contains : List Literal → List Literal → Type 0
Contains clause other = (l : Literal) → has other l ≡ true → has clause l ≡ true

-- as many nogoods as the budget says, each fresh over those before it, so that none contains an
-- earlier one
pub record IsSpentBy (rows : ℕ) (IsTarget : List Bool → Type 0) (best : Option (List Bool)) (least : Bool) (budget : ℕ) (nogoods : List (List Literal)) : Type 0 where
  pub all : length nogoods ≡ budget
  pub each : (i : ℕ) → i < length nogoods → IsNogood rows IsTarget best least (line_at nogoods i)
  pub fresh : AreFreshAlone [] nogoods
  pub apart : (i j : ℕ) → i < j → j < length nogoods → Contains (line_at nogoods j) (line_at nogoods i) → ⊥
