-- A search that was given up, and what a search answers case by case.
use Rattle.std.specs.Prelude.{ℕ, ◌<◌, ◌^◌, Bool, IsTrue, List, Option, IfSome, IsSomeAnd}
use Rattle.rt_schema.specs.Given.{places}
use Rattle.rt_input.specs.Accepted.{Accepted}
use Rattle.rt_clause.specs.Literal.{Literal}
use Rattle.rt_least.specs.Nogoods.{IsSpentBy}
use Rattle.rt_least.specs.declared.best.Best.{Best}
use Rattle.rt_least.specs.declared.best.Best.TheVariants.{Least, Never, Spent}
use Rattle.rt_top.specs.Smallest.{Agrees, HasFewest, IsCounterexample, IsSmallest}

-- The search was given up. The budget is below the number of choices. The best choice so far, if
-- there is one, is a counterexample. If it is said to keep the fewest rows, it is there and does.
-- As many clauses as the budget says are true at each better counterexample, or then at each that
-- keeps as few.
pub record IsGivenUp (input : Accepted) (budget : ℕ) (best : Option (List Bool)) (least : Bool) (nogoods : List (List Literal)) : Type 0 where
  pub small : budget < 2 ^ places input.given.tables
  pub best_is : IfSome best (IsCounterexample input)
  pub least_is : IsTrue least → IsSomeAnd best (HasFewest input)
  pub spent : IsSpentBy (places input.given.tables) (IsCounterexample input) best least budget nogoods

abbrev pub IsVerdict : Accepted → Best → Type 0
IsVerdict input (Least keep) = IsSmallest input keep
IsVerdict input Never = Agrees input
IsVerdict input (Spent s) = IsSomeAnd input.conflicts (λ budget. IsGivenUp input budget s.best s.least s.nogoods)
