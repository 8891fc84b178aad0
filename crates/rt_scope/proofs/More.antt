-- Lists that are not empty.
use Rattle.std.proofs.Common.{◌≡◌, List, [], ◌∷◌, map, refl}
use Rattle.rt_scope.specs.Sums.{has_more}

pub more_map : {X Y : Type 0} (f : X → Y) (xs : List X) → has_more (map f xs) ≡ has_more xs
more_map f [] = refl
more_map f (x ∷ xs) = refl
