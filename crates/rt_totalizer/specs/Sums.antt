-- What is known before and after the cells of some rows are made.
use Rattle.std.specs.Prelude.{ℕ, ◌+◌, ◌<◌, ◌≤◌, Bool, List, length}
use Rattle.rt_clause.specs.Literal.{Literal}
use Rattle.rt_clause.specs.Gates.{Extends}
use Rattle.rt_totalizer.specs.Cells.{IsLeftOut, IsRange, IsNever}

-- the lines leave all rows out but those among these, and their variables are below the next
pub record IsReady (among : List Bool) (never : Literal) (next : ℕ) (lines : List (List Literal)) : Type 0 where
  pub rows : length among ≤ next
  pub out : (row : ℕ) → row < length among → IsLeftOut among row lines
  pub never_true : IsNever never lines
  pub below : never.var < next

-- new lines go on from the old ones, and the cells count so many rows from one on
pub record IsCounted (among : List Bool) (never : Literal) (low n most : ℕ) (cells : List Literal) (next : ℕ) (lines : List (List Literal)) (next_new : ℕ) (lines_new : List (List Literal)) : Type 0 where
  pub over : Extends lines next lines_new next_new
  pub range : IsRange among (length among) never low n most cells next_new lines_new

-- where the cells on the left count a range of rows, and those on the right the range after it, the
-- new ones count both
abbrev pub IsSum : Literal → List Literal → ℕ → List Literal → ℕ → ℕ → List (List Literal) → List Literal → ℕ → ℕ → List (List Literal) → Type 0
IsSum never left most_left right most_right next lines cells most next_new lines_new =
    (among : List Bool) (low a b : ℕ) → length among ≤ next → IsRange among (length among) never low a most_left left next lines → IsRange among (length among) never (low + a) b most_right right next lines
    → IsCounted among never low (a + b) most cells next lines next_new lines_new
