-- A result that is the defined one, unless out of memory.
use Rattle.std.specs.Prelude.{◌≡◌, Bool, Result, Ok, Err, MatchBool}

-- `is_memory` picks the error that says out of memory: that one may come anywhere, all else is
-- the definition's
abbrev pub Gives : {T E : Type 0} → (E → Bool) → Result T E → Result T E → Type 0
Gives is_memory (Ok x) d = d ≡ Ok x
Gives is_memory (Err e) d = MatchBool (is_memory e) (Unit {0}) (d ≡ Err e)
