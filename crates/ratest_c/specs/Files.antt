-- The files of a request.
use Rattle.std.specs.Prelude.{ℕ, ◌-◌, ◌^◌, List, [], ◌∷◌, Bool, true, false, if◌then◌else◌}
use Rattle.std.specs.Str.{bytes_eq}
use Rattle.ratest_c.specs.declared.file.File.{File}

-- the bytes of the first file of a name, and none where there is no file of that name
abbrev pub held_in : List File → List ℕ → List ℕ
held_in [] name = []
held_in (f ∷ fs) name = if bytes_eq f.name name then f.bytes else held_in fs name

-- whether there is a file of that name
abbrev pub has_in : List File → List ℕ → Bool
has_in [] name = false
has_in (f ∷ fs) name = if bytes_eq f.name name then true else has_in fs name

-- how often a name failed: never where there is a file of that name, with bytes or without. Another name
-- can't be read: it may have failed as often as a count can say.
abbrev pub count_if : Bool → ℕ
count_if true = 0
count_if false = 2 ^ 64 - 1

abbrev pub counts_in : List File → List ℕ → ℕ
counts_in files name = count_if (has_in files name)
