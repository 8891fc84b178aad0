-- The clauses of an output at one number of rows on the left and one on the right: none where there
-- cannot be so many.
use Rattle.std.specs.Prelude.{ℕ, ◌&&◌, cond, nat_le, List, [], ◌∷◌}
use Rattle.rt_clause.specs.Literal.{Literal}
use Rattle.rt_totalizer.specs.Merging.{up, down}

abbrev pub up_there : Literal → List Literal → List Literal → ℕ → ℕ → Literal → ℕ → ℕ → List (List Literal)
up_there never left right most_left most_right out i j = cond (nat_le i most_left && nat_le j most_right) (up never left right out i j ∷ []) []

abbrev pub down_there : Literal → List Literal → List Literal → ℕ → ℕ → Literal → ℕ → ℕ → List (List Literal)
down_there never left right most_left most_right out i j = cond (nat_le i most_left && nat_le j most_right) (down never left right out i j ∷ []) []
