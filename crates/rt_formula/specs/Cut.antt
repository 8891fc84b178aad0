-- Choices that are cut to a set of rows.
use Rattle.std.specs.Prelude.{Bool, false, ◌&&◌, List, [], ◌∷◌}

-- the kept rows that are in the set
abbrev pub cut : List Bool → List Bool → List Bool
cut [] set = []
cut (b ∷ keep) [] = false ∷ cut keep []
cut (b ∷ keep) (c ∷ set) = (b && c) ∷ cut keep set
