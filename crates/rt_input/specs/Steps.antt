-- What stops the reading of a command's files.
use Rattle.std.specs.Prelude.{◌≡◌, ℕ, ◌+◌, ◌≤◌, Bool, true, false, IsTrue, List, Option, None, Some, Result, Err, ⊤}
use Rattle.rt_io.specs.Edge.{Rose}
use Rattle.rt_io.specs.declared.files.Files.{Ghosts}
use Rattle.rt_input.specs.declared.part.Part.{Part}
use Rattle.rt_input.specs.declared.part.Part.TheVariants as parts
use Rattle.rt_input.specs.declared.outcome.Limit.{Limit}
use Rattle.rt_input.specs.declared.outcome.Limit.TheVariants as limits
use Rattle.rt_input.specs.declared.outcome.Outcome.{Outcome}
use Rattle.rt_input.specs.declared.outcome.Outcome.TheVariants as outcome
use Rattle.rt_input.specs.declared.source.Source.{Source}
use Rattle.rt_input.specs.Faults.{is_refusal, placeless}
use Rattle.rt_input.specs.Held.{Holding, most_bytes, text_read}
use Rattle.rt_input.specs.Source.{IsKnown, file_of}

-- What is known of the files over a call: whether their contents are known, these, and the counts
-- of errors before and after. And the current name afterwards, with the number of its bytes that
-- were taken.
pub record Seen : Type 0 where
  pub tells : Bool
  pub held : Holding
  pub before : List ℕ → ℕ
  pub after : List ℕ → ℕ
  pub current : Option (List ℕ)
  pub taken : ℕ

abbrev pub seen : Bool → Holding → (List ℕ → ℕ) → (List ℕ → ℕ) → Option (List ℕ) → ℕ → Seen
seen tells held before after current taken = record { tells = tells; held = held; before = before; after = after; current = current; taken = taken }

-- the same of files that a call found as `old` and left as `new`
abbrev pub over : {F : Type 0} → Ghosts F → F → F → Seen
over files old new = seen files.tells (files.held old) (files.faults old) (files.faults new) (files.current new) (files.taken new)

-- the count of this name rose
abbrev pub Failed : Seen → Option (List ℕ) → Type 0
Failed s None = ⊥
Failed s (Some name) = Rose (s.before name) (s.after name)

-- one byte more than a file may have was taken of this name
abbrev pub IsLong : Seen → Option (List ℕ) → Type 0
IsLong s None = ⊥
IsLong s (Some name) = (s.current ≡ Some name) × (s.taken ≡ most_bytes + 1)

-- what has to be where a limit is passed: a file that is too long was read so far
abbrev pub IsLongFor : Seen → Source → Limit → Type 0
IsLongFor s source (limits.TooLong part) = IsLong s (file_of source part)
IsLongFor s source limits.Tables = ⊤
IsLongFor s source (limits.Columns table) = ⊤
IsLongFor s source (limits.Rules table) = ⊤
IsLongFor s source limits.Rows = ⊤
IsLongFor s source (limits.Work work) = ⊤

-- What stops the reading of one file. Its count rose before more bytes than it may have were
-- taken, or one byte more was taken, or it is out of memory.
abbrev pub TextStops : Seen → List ℕ → Part → Outcome → Type 0
TextStops s name part outcome.Agree = ⊥
TextStops s name part (outcome.Witness keep) = ⊥
TextStops s name part outcome.Usage = ⊥
TextStops s name part (outcome.Refused p fault) = ⊥
TextStops s name part (outcome.Spent spent) = ⊥
TextStops s name part (outcome.Limit limit) = (limit ≡ limits.TooLong part) × IsLong s (Some name) × (IsTrue s.tells → text_read part (s.held name) ≡ Err (outcome.Limit (limits.TooLong part)))
TextStops s name part (outcome.ReadFault p) = (p ≡ part) × Failed s (Some name) × (s.taken ≤ most_bytes)
TextStops s name part outcome.WriteFault = ⊥
TextStops s name part outcome.NoMemory = ⊤

abbrev pub is_memory : Outcome → Bool
is_memory outcome.NoMemory = true
is_memory _ = false

-- a limit other than the length of a file
abbrev pub of_contents : Limit → Bool
of_contents (limits.TooLong part) = false
of_contents limits.Tables = true
of_contents (limits.Columns table) = true
of_contents (limits.Rules table) = true
of_contents limits.Rows = true
of_contents (limits.Work work) = true

-- what stops a step that reads no file: the refusal that is judged, or out of memory
abbrev pub Refuses : {T : Type 0} → Result T Outcome → Outcome → Type 0
Refuses judged outcome.Agree = ⊥
Refuses judged (outcome.Witness keep) = ⊥
Refuses judged outcome.Usage = ⊥
Refuses judged (outcome.Refused part fault) = IsTrue (is_refusal fault) × (judged ≡ Err (outcome.Refused part (placeless fault)))
Refuses judged (outcome.Limit limit) = IsTrue (of_contents limit) × (judged ≡ Err (outcome.Limit limit))
Refuses judged (outcome.Spent s) = ⊥
Refuses judged (outcome.ReadFault part) = ⊥
Refuses judged outcome.WriteFault = ⊥
Refuses judged outcome.NoMemory = ⊤

-- An error of reading comes only where the count of the part's file rose, and a refusal is the
-- one that is judged. `Reached` is how far the reading came.
abbrev pub Stops : {T : Type 0} → Seen → Source → Result T Outcome → (Part → Type 0) → Outcome → Type 0
Stops s source judged Reached outcome.Agree = ⊥
Stops s source judged Reached (outcome.Witness keep) = ⊥
Stops s source judged Reached outcome.Usage = ⊥
Stops s source judged Reached (outcome.Refused part fault) = IsTrue (is_refusal fault) × (IsKnown s.tells source → judged ≡ Err (outcome.Refused part (placeless fault)))
Stops s source judged Reached (outcome.Spent spent) = ⊥
Stops s source judged Reached (outcome.Limit limit) = IsLongFor s source limit × (IsKnown s.tells source → judged ≡ Err (outcome.Limit limit))
Stops s source judged Reached (outcome.ReadFault part) = Failed s (file_of source part) × (IsKnown s.tells source → Reached part)
Stops s source judged Reached outcome.WriteFault = ⊥
Stops s source judged Reached outcome.NoMemory = ⊤

-- ---- what an outcome speaks of

abbrev pub IsLimitOf : (Part → Type 0) → Limit → Type 0
IsLimitOf Among (limits.TooLong part) = Among part
IsLimitOf Among limits.Tables = ⊤
IsLimitOf Among (limits.Columns table) = ⊤
IsLimitOf Among (limits.Rules table) = ⊤
IsLimitOf Among limits.Rows = ⊤
IsLimitOf Among (limits.Work work) = ⊥

-- a refusal, a limit or an error of reading is that of one of these parts, and not of the work
abbrev pub SpeaksOf : (Part → Type 0) → Outcome → Type 0
SpeaksOf Among outcome.Agree = ⊤
SpeaksOf Among (outcome.Witness keep) = ⊤
SpeaksOf Among outcome.Usage = ⊤
SpeaksOf Among (outcome.Refused part fault) = Among part
SpeaksOf Among (outcome.Spent spent) = ⊤
SpeaksOf Among (outcome.Limit limit) = IsLimitOf Among limit
SpeaksOf Among (outcome.ReadFault part) = Among part
SpeaksOf Among outcome.WriteFault = ⊤
SpeaksOf Among outcome.NoMemory = ⊤

-- the parts that are read before the queries
abbrev pub IsDataPart : Part → Type 0
IsDataPart parts.Schema = ⊤
IsDataPart (parts.Table at name) = ⊤
IsDataPart parts.Query1 = ⊥
IsDataPart parts.Query2 = ⊥
IsDataPart parts.Queries = ⊥

-- the parts that are read before the second query
abbrev pub IsFirstPart : Part → Type 0
IsFirstPart parts.Schema = ⊤
IsFirstPart (parts.Table at name) = ⊤
IsFirstPart parts.Query1 = ⊤
IsFirstPart parts.Query2 = ⊥
IsFirstPart parts.Queries = ⊥
