-- When each outcome of a call comes, and what the call writes.
use Rattle.std.specs.Option.{ForSome}
use Rattle.std.specs.Prelude.{◌≡◌, ℕ, ◌≤◌, ◌^◌, ◌⊎◌, Bool, List, Some, ⊤}
use Rattle.rt_io.specs.Logs.{Log, Grew, GrewPartly, IsKept, Broke, at_place, other_place}
use Rattle.rt_schema.specs.Given.{places}
use Rattle.rt_io.specs.Command.{command}
use Rattle.rt_io.specs.Ranges.{Command}
use Rattle.rt_input.specs.declared.part.Part.{Part}
use Rattle.rt_input.specs.declared.outcome.Fault.{Fault}
use Rattle.rt_input.specs.declared.outcome.Limit.{Limit}
use Rattle.rt_input.specs.declared.outcome.Outcome.{Outcome}
use Rattle.rt_input.specs.declared.outcome.Outcome.TheVariants as outcome
use Rattle.rt_input.specs.declared.outcome.Spent.{Spent}
use Rattle.rt_input.specs.Accepted.{Accepted}
use Rattle.rt_input.specs.Faults.{placeless}
use Rattle.rt_input.specs.Judged.{IsNamed}
use Rattle.rt_input.specs.Reading.{Call, IsRead, LimitRow, ReadFaultRow, RefusedRow, UsageRow, limit_of}
use Rattle.rt_input.specs.Source.{file_of, source_of}
use Rattle.rt_input.specs.Steps.{Failed}
use Rattle.rt_input.specs.Texts.{place}
use Rattle.rt_top.specs.Smallest.{IsSmallest, Agrees}
use Rattle.rt_top.specs.GivenUp.{IsGivenUp}
use Rattle.rt_top.specs.Texts.{agree_of, refusal_text, spent_of, witness_of}

-- ---- when an outcome comes

abbrev pub AgreeRow : Call → Type 0
AgreeRow c = (input : Accepted) × IsRead c input × Agrees input

abbrev pub WitnessRow : Call → List Bool → Type 0
WitnessRow c keep = (input : Accepted) × IsRead c input × IsSmallest input keep

-- the budget of conflicts of the command is spent
abbrev pub SpentRow : Call → Spent → Type 0
SpentRow c s = (input : Accepted) × IsRead c input × (input.conflicts ≡ Some s.budget) × IsGivenUp input s.budget s.best s.least s.nogoods

-- an outcome that its own row allows, what it says of growth left aside
abbrev pub Row : Call → Outcome → Type 0
Row c outcome.Agree = AgreeRow c
Row c (outcome.Witness keep) = WitnessRow c keep
Row c outcome.Usage = UsageRow c
Row c (outcome.Spent s) = SpentRow c s
Row c (outcome.Refused part fault) = RefusedRow c part fault
Row c (outcome.Limit limit) = LimitRow c limit
Row c (outcome.ReadFault part) = ReadFaultRow c part
Row c outcome.WriteFault = ⊥
Row c outcome.NoMemory = ⊥

-- ---- what is said of one outcome

abbrev pub IfAgree : Outcome → Type 0 → Type 0
IfAgree outcome.Agree P = P
IfAgree _ P = ⊤

abbrev pub IfWitness : Outcome → (List Bool → Type 0) → Type 0
IfWitness (outcome.Witness keep) P = P keep
IfWitness _ P = ⊤

abbrev pub IfSpent : Outcome → (Spent → Type 0) → Type 0
IfSpent (outcome.Spent s) P = P s
IfSpent _ P = ⊤

-- of a verdict
abbrev pub OnVerdict : Outcome → Type 0 → Type 0
OnVerdict outcome.Agree P = P
OnVerdict (outcome.Witness keep) P = P
OnVerdict (outcome.Spent s) P = P
OnVerdict _ P = ⊤

abbrev pub IfUsage : Outcome → Type 0 → Type 0
IfUsage outcome.Usage P = P
IfUsage _ P = ⊤

abbrev pub IfRefused : Outcome → (Part → Fault → Type 0) → Type 0
IfRefused (outcome.Refused part fault) P = P part fault
IfRefused _ P = ⊤

abbrev pub IfLimit : Outcome → (Limit → Type 0) → Type 0
IfLimit (outcome.Limit limit) P = P limit
IfLimit _ P = ⊤

abbrev pub IfReadFault : Outcome → (Part → Type 0) → Type 0
IfReadFault (outcome.ReadFault part) P = P part
IfReadFault _ P = ⊤

abbrev pub IfWriteFault : Outcome → Type 0 → Type 0
IfWriteFault outcome.WriteFault P = P
IfWriteFault _ P = ⊤

abbrev pub IfNoMemory : Outcome → Type 0 → Type 0
IfNoMemory outcome.NoMemory P = P
IfNoMemory _ P = ⊤

-- ---- where an outcome has to come

-- what an answer may be for an input that is refused: that refusal, or an error
abbrev pub YieldsTo : Outcome → Outcome → Type 0
YieldsTo refusal outcome.Agree = ⊥
YieldsTo refusal (outcome.Witness keep) = ⊥
YieldsTo refusal outcome.Usage = refusal ≡ outcome.Usage
YieldsTo refusal (outcome.Spent s) = ⊥
YieldsTo refusal (outcome.Refused part fault) = refusal ≡ outcome.Refused part (placeless fault)
YieldsTo refusal (outcome.Limit limit) = refusal ≡ outcome.Limit limit
YieldsTo refusal (outcome.ReadFault part) = ⊤
YieldsTo refusal outcome.WriteFault = ⊤
YieldsTo refusal outcome.NoMemory = ⊤

-- the same where no file is read
abbrev pub YieldsToWrite : Outcome → Outcome → Type 0
YieldsToWrite refusal outcome.NoMemory = ⊤
YieldsToWrite refusal outcome.WriteFault = ⊤
YieldsToWrite refusal o = o ≡ refusal

-- a verdict, or out of memory
abbrev pub IsVerdictOrMemory : Outcome → Type 0
IsVerdictOrMemory outcome.Agree = ⊤
IsVerdictOrMemory (outcome.Witness keep) = ⊤
IsVerdictOrMemory outcome.NoMemory = ⊤
IsVerdictOrMemory _ = ⊥

-- no count of a file that the command names rose
abbrev pub NoFileRose : Call → Type 0
NoFileRose c = (k : Command) → command c.words ≡ Some k → (part : Part) → IsNamed (source_of k) c.files.held part
    → Failed c.files (file_of (source_of k) part) → ⊥

-- there is no budget of conflicts, or one that no search can spend
abbrev pub HasRoom : Accepted → Type 0
HasRoom input = ForSome input.conflicts (λ budget. 2 ^ places input.given.tables ≤ budget)

-- ---- what is written

-- the text of an outcome; a verdict is printed with the input of which it is one
abbrev pub IsTextOf : Call → Outcome → List ℕ → Type 0
IsTextOf c outcome.Agree said = (input : Accepted) × IsRead c input × Agrees input × (said ≡ agree_of input)
IsTextOf c (outcome.Witness keep) said = (input : Accepted) × IsRead c input × IsSmallest input keep × (said ≡ witness_of input keep)
IsTextOf c (outcome.Spent s) said = (input : Accepted) × IsRead c input × (input.conflicts ≡ Some s.budget) × IsGivenUp input s.budget s.best s.least s.nogoods × (said ≡ spent_of input s)
IsTextOf c o said = said ≡ refusal_text (limit_of (command c.words)) o

-- this sink grew by all of a text of the outcome
abbrev pub GrewByWhole : Call → Outcome → Log → Type 0
GrewByWhole c o sink = (said : List ℕ) × IsTextOf c o said × Grew sink said

-- this sink grew by a prefix of a text of the outcome
abbrev pub GrewByPrefix : Call → Outcome → Log → Type 0
GrewByPrefix c o sink = (said : List ℕ) × IsTextOf c o said × GrewPartly sink said

-- the whole text of the outcome went to its sink, and nothing to the other
pub record WritesAll (c : Call) (o : Outcome) (out err : Log) : Type 0 where
  pub whole : GrewByWhole c o (at_place (place o) out err)
  pub kept : IsKept (other_place (place o) out err)

-- a prefix of a text of an outcome that its row allows went to its sink, and nothing to the other
pub record WritesPart (c : Call) (out err : Log) (o : Outcome) : Type 0 where
  pub row : Row c o
  pub begun : GrewByPrefix c o (at_place (place o) out err)
  pub kept : IsKept (other_place (place o) out err)

-- the same, where that sink failed
pub record WritesUntilFault (c : Call) (out err : Log) (o : Outcome) : Type 0 where
  pub begun : WritesPart c out err o
  pub rose : Broke (at_place (place o) out err)

-- of an outcome that has a text
abbrev pub IfText : Outcome → Type 0 → Type 0
IfText outcome.WriteFault P = ⊤
IfText outcome.NoMemory P = ⊤
IfText _ P = P

-- how the writing of a text ended: all of it was taken, the sink failed, or it is out of memory
abbrev pub WritesTo : Log → Outcome → List ℕ → Outcome → Type 0
WritesTo sink o said result =
    ((result ≡ o) × Grew sink said)
    ⊎ (((result ≡ outcome.WriteFault) × Broke sink × GrewPartly sink said)
    ⊎ ((result ≡ outcome.NoMemory) × GrewPartly sink said))

-- the same at the sink of an outcome, with nothing at the other
pub record Writes (out err : Log) (o : Outcome) (said : List ℕ) (result : Outcome) : Type 0 where
  pub ends : WritesTo (at_place (place o) out err) o said result
  pub kept : IsKept (other_place (place o) out err)

-- what is said of an accepted input
abbrev pub Judges : Accepted → Outcome → List ℕ → Type 0
Judges input outcome.Agree said = Agrees input × (said ≡ agree_of input)
Judges input (outcome.Witness keep) said = IsSmallest input keep × (said ≡ witness_of input keep)
Judges input (outcome.Spent s) said = (input.conflicts ≡ Some s.budget) × IsGivenUp input s.budget s.best s.least s.nogoods × (said ≡ spent_of input s)
Judges input _ said = ⊥
