-- What the places of a clause's block hold.
use Rattle.std.specs.Prelude.{◌≡◌, ◌<◌, ◌^◌, List, [], ◌∷◌, map, length, Option, Some, None}
use Rattle.rt_clause.specs.Literal.{Literal}
use Rattle.rt_clause.specs.declared.thin.ThinClause.TheInside.{Inside}

-- the literals that are there
abbrev pub somes : List (Option Literal) → List Literal
somes [] = []
somes (None ∷ cs) = somes cs
somes (Some l ∷ cs) = l ∷ somes cs

-- the pointer, the places and the deed are of one block, and each place has its literal
pub record IsOneBlock (c : Inside) : Type 0 where
  pub places_at : c.start.ptr ≡ c.places.at
  pub deed_at : c.deed.at ≡ c.start.ptr
  pub deed_len : c.deed.len ≡ length c.places.slots
  pub given_by : c.deed.alloc ≡ c.alloc
  pub full : (ls : List Literal) × (c.places.slots ≡ map Some ls)
  pub fits : length c.places.slots < 2 ^ 59
