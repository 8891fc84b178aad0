-- What the owner of a block owns and lends. The block begins with one machine word, the number of
-- its places. Then come the places, each for an item of the row R that takes as much as a word.
-- After the specs of the kit's `circular_buffer` (LICENSE-circular_buffer).
use Rattle.std.specs.Prelude.{◌≡◌, ℕ, ◌+◌, ◌*◌, ◌^◌, List, [], ◌∷◌, length, Option, Some, None}
use Rattle.std.specs.Mem.{type_size}
use Rattle.std.specs.Align.{type_align}
use Rattle.std.specs.Borrow.{usize}
use base.Fraction.{full_share}
use base.Fml.{Lft, Fml, ftrue, ffalse, fsep, flt, froom, fwand}
use mir.Syntax.{Ty, ty_array, ty_int, w64}
use mir.Raw.{raw}
use denote.RattleType.{RattleType}
use denote.Memory.{lone, part_at, shared_of}
use denote.Sharing.{nothing, said, beside}
use denote.RawPtr.{Ptr, block_ptr, null_ptr}

-- an item takes the bytes of one word, and may lie where a word may
abbrev pub IsWordSized : RattleType → Type 0
IsWordSized R = (type_size R ≡ 8) × (type_align R ≡ 8)

module _ (R : RattleType) where
  -- one place, o bytes into the block b
  abbrev pub slot : ℕ → ℕ → Option R.Denot → Fml
  slot b o (Some x) = part_at R full_share x b o
  slot b o None = froom (raw (lone R.mir)) b o

  -- places one after another
  abbrev pub slots : ℕ → ℕ → List (Option R.Denot) → Fml
  slots b o [] = ftrue
  slots b o (c ∷ cs) = fsep (slot b o c) (slots b (o + type_size R) cs)

  abbrev pub slot_lent : ℕ → ℕ → Option R.Denot → Lft → Fml
  slot_lent b o (Some x) = shared_of R x b o
  slot_lent b o None = nothing

  abbrev pub slots_lent : ℕ → ℕ → List (Option R.Denot) → Lft → Fml
  slots_lent b o [] = nothing
  slots_lent b o (c ∷ cs) = beside (slot_lent b o c) (slots_lent b (o + type_size R) cs)

  -- the places take fewer than 2 ^ 63 bytes
  abbrev pub fit : List (Option R.Denot) → Fml
  fit cs = flt (length cs * type_size R) (2 ^ 63)

  -- the word and the places after it
  abbrev pub places_own : Ptr → List (Option R.Denot) → Fml
  places_own (block_ptr b o) cs = fsep (fit cs) (fsep (part_at usize full_share (length cs) b o) (slots b (8 + o) cs))
  places_own null_ptr cs = ffalse

  abbrev pub places_lent : Ptr → List (Option R.Denot) → Lft → Fml
  places_lent (block_ptr b o) cs = beside (said (fit cs)) (beside (shared_of usize (length cs) b o) (slots_lent b (8 + o) cs))
  places_lent null_ptr cs = said ffalse

  -- the right to free the block of a word and n places, once the word is room for an item again
  abbrev pub deed_owns : (Ty → Ptr → Fml) → Ptr → ℕ → Fml
  deed_owns token (block_ptr b o) n = fsep (token (raw (ty_array (lone R.mir) (n + 1))) (block_ptr b o)) (fwand (froom (ty_int w64) b o) (froom (raw (lone R.mir)) b o))
  deed_owns token null_ptr n = ffalse
