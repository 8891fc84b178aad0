-- Readers of members of lists.
use Rattle.std.specs.Prelude.{◌≡◌, ◌≤◌, length, Some}
use Rattle.rt_token.specs.Readers.{Parser}
use Rattle.rt_token.specs.Terminals.{Kinds}

-- it leaves no more than it was given
abbrev pub IsShort : {A : Type 0} → Parser A → Type 0
IsShort {A = A} p = (ks more : Kinds) (x : A) → p ks ≡ Some (x, more) → length more ≤ length ks
