-- A reader of a table's file, as the list of the records that it has left.
use Rattle.std.specs.Prelude.{◌≡◌, ℕ, ◌+◌, Bool, true, false, List, [], ◌∷◌, length, Option, Some, None, IsSome}
use Rattle.std.specs.Bool.{MatchBool}
use Rattle.std.specs.Borrow.{Bor}
use Rattle.csv.specs.Machine.{ends_at_end}
use Rattle.csv.specs.Reading.{Ready, default_config, is_flexible, reader_config, reader_state, reader_trim, records_from, source_of}
use Rattle.csv.specs.declared.parser.State.{State}
use Rattle.csv.specs.declared.reader.Reader.{Reader}
use Rattle.csv.specs.declared.reader.Trim.TheVariants as trim

abbrev pub Source : Type 0
Source = Bor (List ℕ)

-- the bytes that the reader has left
abbrev pub bytes_left : Reader Source → Option (List ℕ)
bytes_left rdr = source_of (λ s. Some s.now) rdr

abbrev pub records_of : State → Option (List ℕ) → List (List (List ℕ))
records_of s None = []
records_of s (Some xs) = records_from default_config (length xs + 1) s xs

-- the records that the reader has left
unfoldable pub left_of : Reader Source → List (List (List ℕ))
left_of rdr = records_of (reader_state rdr) (bytes_left rdr)

-- the reader is between two records, and gives them as they are
pub record IsReading (rdr : Reader Source) : Type 0 where
  pub plain : reader_trim rdr ≡ trim.None
  pub ready : Ready rdr
  pub config : reader_config rdr ≡ default_config
  pub known : IsSome (bytes_left rdr)
  pub between : ends_at_end (reader_state rdr) ≡ false
  pub flexible : is_flexible rdr ≡ true

-- a read gave the first of the records that were left, or there is none
abbrev pub ReadsNext : Reader Source → Reader Source → Bool → List (List ℕ) → Type 0
ReadsNext a b found fields = MatchBool found (IsReading b × (left_of a ≡ fields ∷ left_of b)) (left_of a ≡ [])
