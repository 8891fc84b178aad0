-- Nodes that have their first child in common.
use Rattle.std.specs.Prelude.{◌≡◌, ℕ, List, ◌∷◌, slice_get, Some}
use Rattle.rt_formula.specs.declared.entry.Entry.TheVariants.{All}
use Rattle.rt_formula.specs.Shared.{Shared}

-- a node is an `all` whose first child is this one
pub record StandsOver (d : Shared) (first n : ℕ) : Type 0 where
  pub later : List ℕ
  pub entry : slice_get d.entries n ≡ Some (All (first ∷ later))
