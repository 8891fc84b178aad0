-- What the reads of files gave, and which contents of names fit it.
use Rattle.std.specs.Prelude.{◌≡◌, ◌≢◌, ℕ, ◌==◌, ◌&&◌, nat_lt, Bool, true, false, List, [], ◌∷◌, ◌++◌, ⊤, Option, None, Some, if◌then◌else◌}
use Rattle.std.specs.Str.{bytes_eq}

-- One reading: the name that was begun, the bytes that its reads gave so far, in order, and whether
-- the last read gave nothing though there was room, which is the end of the file.
pub record Reading : Type 0 where
  pub name : List ℕ
  pub bytes : List ℕ
  pub whole : Bool

abbrev pub reading_of : List ℕ → List ℕ → Bool → Reading
reading_of name bytes whole = record { name = name; bytes = bytes; whole = whole }

-- the newest reading goes on with these bytes
abbrev pub grown : List ℕ → Bool → List Reading → List Reading
grown piece ended [] = []
grown piece ended (r ∷ rs) = reading_of r.name (r.bytes ++ piece) ended ∷ rs

-- the same where a file is current; else there is no reading that goes on
abbrev pub given_by : Option (List ℕ) → List ℕ → Bool → List Reading → List Reading
given_by None piece ended readings = readings
given_by (Some name) piece ended readings = grown piece ended readings

-- `n` bytes into a buffer of this length are the end of the file
abbrev pub is_end : ℕ → ℕ → Bool
is_end n room = (n == 0) && nat_lt 0 room

-- the contents of a name fit a reading: they are the bytes of a whole one, and begin with those of another
abbrev pub FitsBytes : Bool → List ℕ → List ℕ → Type 0
FitsBytes true bytes held = held ≡ bytes
FitsBytes false bytes held = (left : List ℕ) × (held ≡ bytes ++ left)

abbrev pub AllFit : (List ℕ → List ℕ) → List Reading → Type 0
AllFit held [] = ⊤
AllFit held (r ∷ rs) = FitsBytes r.whole r.bytes (held r.name) × AllFit held rs

-- readings were added, the newest in front
abbrev pub Adds : List Reading → List Reading → Type 0
Adds old new = (more : List Reading) × (new ≡ more ++ old)

-- these contents fit the readings that were added
abbrev pub Fits : (List ℕ → List ℕ) → List Reading → List Reading → Type 0
Fits held old new = (more : List Reading) → new ≡ more ++ old → AllFit held more

-- the bytes of the newest reading of a name
abbrev pub contents_in : List Reading → List ℕ → List ℕ
contents_in [] name = []
contents_in (r ∷ rs) name = if bytes_eq r.name name then r.bytes else contents_in rs name

-- none of these readings is of the name
abbrev pub IsOther : List ℕ → List Reading → Type 0
IsOther name [] = ⊤
IsOther name (r ∷ rs) = (r.name ≢ name) × IsOther name rs

-- no two of these readings are of one name
abbrev pub AreApart : List Reading → Type 0
AreApart [] = ⊤
AreApart (r ∷ rs) = IsOther r.name rs × AreApart rs
