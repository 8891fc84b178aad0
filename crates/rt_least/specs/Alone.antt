-- Whether a choice is the only one of at most its size.
use Rattle.std.specs.Prelude.{◌≡◌, ℕ, ◌<◌, ◌≤◌, Bool, true, false, List, ◌++◌, length, slice_index_or, Option, Some, None}
use Rattle.rt_value.specs.Keep.{size}
use Rattle.rt_clause.specs.Literal.{Literal}
use Rattle.rt_clause.specs.Lists.{has, IsBelow}
use Rattle.rt_clause.specs.Models.{lit_true, IsModel}
use Rattle.rt_clause.specs.Gates.{AgreeBelow}
use Rattle.rt_formula.specs.Shared.{Shared}

-- the literal is true where no more rows are kept than in a choice
abbrev pub AllowsFew : Shared → List (List Literal) → List Bool → Literal → Type 0
AllowsFew d lines best held = (keep bools : List Bool) → length keep ≡ d.rows → AgreeBelow d.rows keep bools → IsModel lines bools → size keep ≤ size best → lit_true bools held ≡ true

-- each target of at most as many rows is this one
abbrev pub IsOnly : (List Bool → Type 0) → List Bool → Type 0
IsOnly IsTarget keep = (other : List Bool) → IsTarget other → size other ≤ size keep → other ≡ keep

-- another target, or there is none of at most as many rows
abbrev pub IsOther : (List Bool → Type 0) → List Bool → Option (List Bool) → Type 0
IsOther IsTarget keep (Some other) = IsTarget other
IsOther IsTarget keep None = IsOnly IsTarget keep

-- literals over the first rows, among them for each of those that is kept the one that says so
pub record AreKept (keep : List Bool) (rows : ℕ) (lits : List Literal) : Type 0 where
  pub below : IsBelow rows lits
  pub each : (v : ℕ) → v < rows → slice_index_or keep v false ≡ true → (l : Literal) × (has lits l ≡ true) × (l.var ≡ v) × (l.on ≡ true)

-- lines were added
pub record HasMoreLines (old new : List (List Literal)) : Type 0 where
  pub more : List (List Literal)
  pub lines : new ≡ old ++ more
