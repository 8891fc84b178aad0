-- The trail as callers see it, and its table of literals.
use Rattle.std.specs.Prelude.{◌≡◌, ℕ, ◌*◌, ◌<◌, ◌≤◌, Bool, true, false, cond, List, length, slice_index_or, Option, Some, None}
use Rattle.std.specs.Bool.{beq}
use Rattle.rt_clause.specs.Literal.{Literal}
use Rattle.rt_clause.specs.Lists.{has, is_false}
use Rattle.rt_clause.specs.Packed.{packed}
use Rattle.rt_store.specs.declared.status.Status.{Status}
use Rattle.rt_store.specs.declared.status.Status.TheVariants.{True, False, Unassigned}
use Rattle.rt_store.specs.declared.trail.Step.{Step}
use Rattle.rt_store.specs.Trail.{value_in, IsApart}

-- the steps, newest first, and the number of variables
pub record Tracked : Type 0 where
  pub steps : List Step
  pub vars : ℕ

-- what the value of its variable makes of a literal that is true at a Bool
abbrev pub status_at : Option Bool → Bool → Status
status_at None on = Unassigned
status_at (Some value) on = cond (beq value on) True False

-- the status of each literal after the steps, and room for a step of each variable
pub record IsTable (statuses : List Status) (vars : ℕ) (steps : List Step) (room : ℕ) : Type 0 where
  pub status : (l : Literal) → l.var < vars → slice_index_or statuses (packed l) Unassigned ≡ status_at (value_in steps l.var) l.on
  pub literals : length statuses ≡ 2 * vars
  pub apart : IsApart vars steps
  pub steps_fit : vars ≤ room

abbrev IsStatusAt : List Literal → Literal → Bool → Type 0
IsStatusAt set l true = has set l ≡ true
IsStatusAt set l false = is_false set l ≡ true

-- a literal is true, is false, or has no value
abbrev pub IsStatus : List Literal → Option Bool → Literal → Option Bool → Type 0
IsStatus set value l None = value ≡ None
IsStatus set value l (Some b) = IsStatusAt set l b
