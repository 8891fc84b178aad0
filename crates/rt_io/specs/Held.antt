-- What files in memory hold.
use Rattle.std.specs.Prelude.{ℕ, List, [], ◌∷◌, Bool, true, false, if◌then◌else◌}
use Rattle.std.specs.Str.{bytes_eq}
use Rattle.rt_io.specs.declared.held.Held.{Held}

-- the bytes of a name, and none where there is no file of that name
abbrev pub held_in : List Held → List ℕ → List ℕ
held_in [] name = []
held_in (f ∷ fs) name = if bytes_eq f.name name then f.bytes else held_in fs name

-- whether there is a file of that name
abbrev pub has_in : List Held → List ℕ → Bool
has_in [] name = false
has_in (f ∷ fs) name = if bytes_eq f.name name then true else has_in fs name
