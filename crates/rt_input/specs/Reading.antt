-- A call as the reading of its input sees it: what was read, and what stops it.
use Rattle.std.specs.Option.{ForSome}
use Rattle.std.specs.Prelude.{◌≡◌, ℕ, IsTrue, List, Option, None, Some, Ok, Err, IsSome, IsSomeAnd, ⊤}
use Rattle.rt_io.specs.declared.files.Files.{Ghosts as Files}
use Rattle.rt_io.specs.Command.{command}
use Rattle.rt_io.specs.Gave.{Fits, Reading}
use Rattle.rt_io.specs.Ranges.{Command}
use Rattle.rt_input.specs.declared.part.Part.{Part}
use Rattle.rt_input.specs.declared.outcome.Fault.{Fault}
use Rattle.rt_input.specs.declared.outcome.Limit.{Limit}
use Rattle.rt_input.specs.declared.outcome.Outcome.{Outcome}
use Rattle.rt_input.specs.declared.outcome.Outcome.TheVariants as outcome
use Rattle.rt_input.specs.Accepted.{Accepted, HasOptions, IsAccepted}
use Rattle.rt_input.specs.Faults.{is_refusal, placeless}
use Rattle.rt_input.specs.Judged.{judged, Reaches}
use Rattle.rt_input.specs.Held.{Holding, text_of}
use Rattle.rt_input.specs.Placed.{Placed}
use Rattle.rt_input.specs.Source.{IsKnown, IsMade, file_of, source_of}
use Rattle.rt_input.specs.Steps.{Seen, over, Failed, IsLongFor}

-- the readings of files before a call, and those until its end
pub record Readings : Type 0 where
  pub before : List Reading
  pub after : List Reading

-- a call: its arguments, what is known of the files over it, and the readings, where they are told
pub record Call : Type 0 where
  pub words : List (List ℕ)
  pub files : Seen
  pub readings : Option Readings

-- the call on these arguments that found the files as `old` and left them as `new`
abbrev pub call : {F : Type 0} → Files F → List (List ℕ) → F → F → Call
call files words old new = record { words = words; files = over files old new; readings = Some (record { before = files.gave old; after = files.gave new }) }

-- the contents of the command's source are known
abbrev pub IsTold : Call → Type 0
IsTold c = ForSome (command c.words) (λ k. IsKnown c.files.tells (source_of k))

-- the command asks for a generated input
abbrev pub IsMadeCall : Option Command → Type 0
IsMadeCall o = IsSomeAnd o (λ k. IsMade (source_of k))

-- contents of names that fit all that the reads of the call gave
abbrev pub IsGiven : Holding → Call → Type 0
IsGiven held c = IsSomeAnd c.readings (λ r. Fits held r.before r.after)

-- An input that was read in the call: an accepted one with the numbers of the command. It is the
-- one that is judged of what the reads gave. If the contents of its source are known, it is the
-- one that is judged of them.
pub record IsRead (c : Call) (input : Accepted) : Type 0 where
  pub sound : IsAccepted input
  pub options : IsSomeAnd (command c.words) (λ k. HasOptions k input)
  pub told : IsTold c → judged c.words c.files.held ≡ Ok input
  pub given : (held : Holding) → IsGiven held c → judged c.words held ≡ Ok input

-- the work limit of the command
abbrev pub limit_of : Option Command → ℕ
limit_of None = 0
limit_of (Some k) = k.work_limit

abbrev pub UsageRow : Call → Type 0
UsageRow c = command c.words ≡ None

-- if the contents of the source are known, a syntax error names a place in the text of its part
abbrev pub PlacedRow : Call → Outcome → Type 0
PlacedRow c o = ForSome (command c.words) (λ k. IsKnown c.files.tells (source_of k) → Placed (text_of (source_of k) c.files.held) o)

-- the refusal that is judged; which place of its text a syntax error names is left open
abbrev pub RefusedRow : Call → Part → Fault → Type 0
RefusedRow c part fault =
    IsSome (command c.words) × IsTrue (is_refusal fault) × (IsTold c → judged c.words c.files.held ≡ Err (outcome.Refused part (placeless fault)))
    × PlacedRow c (outcome.Refused part fault)

-- a file is too long where one byte more than it may have was taken
abbrev pub LimitRow : Call → Limit → Type 0
LimitRow c limit = IsSomeAnd (command c.words) (λ k. IsLongFor c.files (source_of k) limit) × (IsTold c → judged c.words c.files.held ≡ Err (outcome.Limit limit))

-- the file of this part failed in this call, and nothing before it is refused
pub record ReadFaultAt (s : Seen) (part : Part) (k : Command) : Type 0 where
  pub failed : Failed s (file_of (source_of k) part)
  pub reached : IsKnown s.tells (source_of k) → Reaches (source_of k) s.held part

abbrev pub ReadFaultRow : Call → Part → Type 0
ReadFaultRow c part = IsSomeAnd (command c.words) (ReadFaultAt c.files part)

-- what stops the reading of the arguments
abbrev pub WordsStop : Option Command → Outcome → Type 0
WordsStop o outcome.Usage = o ≡ None
WordsStop o outcome.NoMemory = ⊤
WordsStop o _ = ⊥

-- what stops the reading of an input: its row, if it is no verdict, or out of memory
abbrev pub Stop : Call → Outcome → Type 0
Stop c outcome.Agree = ⊥
Stop c (outcome.Witness keep) = ⊥
Stop c (outcome.Spent s) = ⊥
Stop c outcome.Usage = UsageRow c
Stop c (outcome.Refused part fault) = RefusedRow c part fault
Stop c (outcome.Limit limit) = LimitRow c limit
Stop c (outcome.ReadFault part) = ReadFaultRow c part
Stop c outcome.WriteFault = ⊥
Stop c outcome.NoMemory = ⊤
