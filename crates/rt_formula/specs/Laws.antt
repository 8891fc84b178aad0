-- What growth leaves as it was, and how it is taken back.
use Rattle.std.specs.Prelude.{◌≡◌, ℕ, ◌<◌, Bool, List, length}
use Rattle.rt_formula.specs.Shared.{Shared, val, truncated, IsGrown}

-- older nodes stay nodes and keep their values
pub record OlderStay : Type 0 where
  pub nodes : (old new : Shared) → IsGrown old new → (n : ℕ) → n < length old.entries → n < length new.entries
  pub values : (old new : Shared) → IsGrown old new → (keep : List Bool) (n : ℕ) → n < length old.entries → val new keep n ≡ val old keep n

-- the entries that came first are what there was before the later ones
abbrev pub TakenBack : Type 0
TakenBack = (old new : Shared) → IsGrown old new → truncated (length old.entries) new ≡ old
