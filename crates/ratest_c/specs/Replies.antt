-- The bytes of a reply.
use Rattle.std.specs.Prelude.{ℕ, ◌<◌, ◌≤◌, ◌^◌, ◌⊎◌, List, ◌∷◌, ◌++◌, length}
use Rattle.std.specs.Int.{to_le_bytes, w32}

-- the status, the length of the first text, that text, and the second one
abbrev pub framed : ℕ → List ℕ → List ℕ → List ℕ
framed status out err = status ∷ (to_le_bytes w32 (length out) ++ (out ++ err))

-- the status fits one byte, and the length of each text a number of four
abbrev pub FitsFrame : ℕ → List ℕ → List ℕ → Type 0
FitsFrame status out err = (status < 256) × (length out < 2 ^ 32) × (length err < 2 ^ 32)

-- the length of one of the texts is too great for four bytes
abbrev pub IsLong : List ℕ → List ℕ → Type 0
IsLong out err = (2 ^ 32 ≤ length out) ⊎ (2 ^ 32 ≤ length err)
