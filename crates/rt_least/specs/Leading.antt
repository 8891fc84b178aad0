-- How far a choice of the fewest rows is known to be the first of them.
use Rattle.std.specs.Prelude.{◌≡◌, ℕ, ◌≤◌, Bool, true, List, length}
use Rattle.rt_value.specs.Keep.{size, ComesBefore}
use Rattle.rt_clause.specs.Literal.{Literal}
use Rattle.rt_clause.specs.Models.{lit_true, IsModel}
use Rattle.rt_clause.specs.Gates.{AgreeBelow}
use Rattle.rt_formula.specs.Shared.{Shared}
use Rattle.rt_least.specs.Least.{HasFewest}
use Rattle.rt_least.specs.Sought.{IsSought}

-- in each model over a choice of rows the literal has this value
abbrev pub HasValue : Shared → List (List Literal) → Literal → (List Bool → Bool) → Type 0
HasValue d lines l value = (keep bools : List Bool) → length keep ≡ d.rows → AgreeBelow d.rows keep bools → IsModel lines bools → lit_true bools l ≡ value keep

-- The best choice has the fewest rows. Where the goal and the held literal are true, a choice has
-- no more rows and agrees with the best one up to a place. Each choice that would come before the
-- best one makes the held literal true.
pub record IsLeading (d : Shared) (goal : ℕ) (cone : List Bool) (lines : List (List Literal)) (best : List Bool) (place : ℕ) (held : Literal) : Type 0 where
  pub best_is : IsSought d goal cone best
  pub fewest : HasFewest (IsSought d goal cone) best
  pub value : List Bool → Bool
  pub held_is : HasValue d lines held value
  pub few : (s : List Bool) → IsSought d goal cone s → value s ≡ true → size s ≤ size best
  pub alike : (s : List Bool) → IsSought d goal cone s → value s ≡ true → AgreeBelow place s best
  pub rivals : (s : List Bool) → IsSought d goal cone s → size s ≡ size best → ComesBefore s best → value s ≡ true

-- the same before any row is settled; each choice of no more rows than the best makes the held
-- literal true
abbrev pub AllFew : Shared → ℕ → List Bool → List (List Literal) → List Bool → Literal → Type 0
AllFew d goal cone lines best held = (l : IsLeading d goal cone lines best 0 held) × ((s : List Bool) → IsSought d goal cone s → size s ≤ size best → l.value s ≡ true)
