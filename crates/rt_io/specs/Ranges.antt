-- A command, and the ranges of its numbers.
use Rattle.std.specs.Prelude.{◌≡◌, ℕ, ◌≤◌, List, length, Option, Some, None}
use Rattle.std.specs.Option.{ForSome}
use Rattle.rt_io.specs.declared.limits.Limits.{Limits}

-- what the arguments ask for: the queries over the files of four paths, or over a generated input
-- of the size `made`
pub record Command : Type 0 where
  pub paths : List (List ℕ)
  pub conflicts : Option ℕ
  pub work_limit : ℕ
  pub made : Option ℕ

abbrev pub most_conflicts : ℕ
most_conflicts = 10000000

abbrev pub most_work : ℕ
most_work = 32000000

abbrev pub most_made : ℕ
most_made = 400

-- from 1 to `most`
abbrev pub IsWithin : ℕ → ℕ → Type 0
IsWithin most n = (1 ≤ n) × (n ≤ most)

-- the paths that are wanted: four of files, none where the input is generated
abbrev pub paths_wanted : Option ℕ → ℕ
paths_wanted None = 4
paths_wanted (Some n) = 0

pub record IsInRange (c : Command) : Type 0 where
  pub paths : length c.paths ≡ paths_wanted c.made
  pub conflicts : ForSome c.conflicts (IsWithin most_conflicts)
  pub work_limit : IsWithin most_work c.work_limit
  pub made : ForSome c.made (IsWithin most_made)

pub record AreInRange (l : Limits) : Type 0 where
  pub conflicts : ForSome l.conflicts (IsWithin most_conflicts)
  pub work : IsWithin most_work l.work
