-- When each outcome of a call comes, and what the call writes.
use Rattle.std.specs.Prelude.{◌≡◌, ℕ, ◌⊎◌, Bool, IsTrue, List, None, Some, Ok, Err, IsSome, IsSomeAnd, ⊤}
use Rattle.std.specs.Option.{ForSome}
use Rattle.rt_io.specs.Logs.{Log, Broke, Grew, GrewPartly, IsKept, at_place, other_place}
use Rattle.rt_ra_tree.specs.declared.fault.RaFault.{RaFault}
use Rattle.rt_input.specs.declared.part.Part.{Part}
use Rattle.rt_input.specs.declared.outcome.Fault.{Fault}
use Rattle.rt_input.specs.declared.outcome.Limit.{Limit}
use Rattle.rt_input.specs.declared.outcome.Outcome.{Outcome}
use Rattle.rt_input.specs.declared.outcome.Outcome.TheVariants as outcome
use Rattle.rt_input.specs.declared.outcome.Spent.{Spent}
use Rattle.rt_input.specs.Reading.{Call}
use Rattle.rt_top.specs.Answers.{IfText}
use Rattle.rt_top.specs.Answers as top
use Rattle.rt_input.specs.Faults as faults
use Rattle.rt_input.specs.Judged.{IsNamed}
use Rattle.rt_input.specs.Source.{source_from}
use Rattle.rt_input.specs.Steps.{Seen, Failed}
use Rattle.rt_ra_run.specs.declared.asked.Asked.{Asked}
use Rattle.rt_ra_run.specs.declared.command.RaCommand.{RaCommand}
use Rattle.rt_ra_run.specs.declared.outcome.RaOutcome.{RaOutcome}
use Rattle.rt_ra_run.specs.declared.outcome.RaOutcome.TheVariants.{Verdict, Refused}
use Rattle.rt_ra_run.specs.Asked.{HasNumbers, IsAsked}
use Rattle.rt_ra_run.specs.Faults.{is_refusal, placeless}
use Rattle.rt_ra_run.specs.Judged.{Reaches, file_at, paths_of, ra_judged}
use Rattle.rt_ra_run.specs.Placed.{Placed}
use Rattle.rt_ra_run.specs.Smallest.{Agrees, IsGivenUp, IsSmallest}
use Rattle.rt_ra_run.specs.Steps.{IsLong}
use Rattle.rt_ra_run.specs.Texts.{agree_text, place, refusal_text, spent_of, witness_of}
use Rattle.rt_ra_run.specs.Words.{limit_of, ra_command}

-- ---- when an outcome comes

-- what was read in the call: an input that can be accepted, with the numbers of the command, and
-- where the files' contents are known, the one that is judged
pub record IsRead (c : Call) (a : Asked) : Type 0 where
  pub sound : IsAsked a
  pub numbers : IsSomeAnd (ra_command c.words) (λ k. HasNumbers k a)
  pub told : IsTrue c.files.tells → ra_judged c.words c.files.held ≡ Ok a

abbrev pub AgreeRow : Call → Type 0
AgreeRow c = (a : Asked) × IsRead c a × Agrees a

abbrev pub WitnessRow : Call → List Bool → Type 0
WitnessRow c keep = (a : Asked) × IsRead c a × IsSmallest a keep

-- the budget of conflicts of the command is spent
abbrev pub SpentRow : Call → Spent → Type 0
SpentRow c s = (a : Asked) × IsRead c a × (a.input.conflicts ≡ Some s.budget) × IsGivenUp a s

abbrev pub UsageRow : Call → Type 0
UsageRow c = ra_command c.words ≡ None

-- where the files' contents are known, the place of a syntax error is in the text of its part
abbrev pub PlacedRow : Call → RaOutcome → Type 0
PlacedRow c o = ForSome (ra_command c.words) (λ k. IsTrue c.files.tells → Placed k c.files.held o)

-- the refusal that is judged; which place of its text a syntax error names is left open
abbrev pub RefusedRow : Call → Part → RaFault → Type 0
RefusedRow c part fault =
    IsSome (ra_command c.words) × IsTrue (is_refusal fault) × (IsTrue c.files.tells → ra_judged c.words c.files.held ≡ Err (Refused part (placeless fault)))
    × PlacedRow c (Refused part fault)

-- the same of the schema, a table, or the pair of queries
abbrev pub RefusedElsewhereRow : Call → Part → Fault → Type 0
RefusedElsewhereRow c part fault =
    IsSome (ra_command c.words) × IsTrue (faults.is_refusal fault) × (IsTrue c.files.tells → ra_judged c.words c.files.held ≡ Err (Verdict (outcome.Refused part (faults.placeless fault))))
    × PlacedRow c (Verdict (outcome.Refused part fault))

-- a file is too long where one byte more than it may have was taken
abbrev pub LimitRow : Call → Limit → Type 0
LimitRow c limit = IsSomeAnd (ra_command c.words) (λ k. IsLong c.files k limit) × (IsTrue c.files.tells → ra_judged c.words c.files.held ≡ Err (Verdict (outcome.Limit limit)))

-- the file of this part failed in this call, and nothing before it is refused
pub record ReadFaultAt (s : Seen) (part : Part) (k : RaCommand) : Type 0 where
  pub failed : Failed s (file_at k part)
  pub reached : IsTrue s.tells → Reaches k s.held part

abbrev pub ReadFaultRow : Call → Part → Type 0
ReadFaultRow c part = IsSomeAnd (ra_command c.words) (ReadFaultAt c.files part)

abbrev pub VerdictRow : Call → Outcome → Type 0
VerdictRow c outcome.Agree = AgreeRow c
VerdictRow c (outcome.Witness keep) = WitnessRow c keep
VerdictRow c outcome.Usage = UsageRow c
VerdictRow c (outcome.Spent s) = SpentRow c s
VerdictRow c (outcome.Refused part fault) = RefusedElsewhereRow c part fault
VerdictRow c (outcome.Limit limit) = LimitRow c limit
VerdictRow c (outcome.ReadFault part) = ReadFaultRow c part
VerdictRow c outcome.WriteFault = ⊥
VerdictRow c outcome.NoMemory = ⊥

-- an outcome that its own row allows, what it says of growth left aside
abbrev pub Row : Call → RaOutcome → Type 0
Row c (Verdict o) = VerdictRow c o
Row c (Refused part fault) = RefusedRow c part fault

-- ---- vocabulary for one outcome

abbrev pub IfVerdict : RaOutcome → (Outcome → Type 0) → Type 0
IfVerdict (Verdict o) P = P o
IfVerdict (Refused part fault) P = ⊤

abbrev pub IfRefusedText : RaOutcome → (Part → RaFault → Type 0) → Type 0
IfRefusedText (Verdict o) P = ⊤
IfRefusedText (Refused part fault) P = P part fault

-- of an outcome that has a text
abbrev pub IfSaid : RaOutcome → Type 0 → Type 0
IfSaid (Verdict o) P = IfText o P
IfSaid (Refused part fault) P = P

-- ---- where an outcome has to come

abbrev pub VerdictYields : RaOutcome → Outcome → Type 0
VerdictYields refusal outcome.Agree = ⊥
VerdictYields refusal (outcome.Witness keep) = ⊥
VerdictYields refusal outcome.Usage = refusal ≡ Verdict outcome.Usage
VerdictYields refusal (outcome.Spent s) = ⊥
VerdictYields refusal (outcome.Refused part fault) = refusal ≡ Verdict (outcome.Refused part (faults.placeless fault))
VerdictYields refusal (outcome.Limit limit) = refusal ≡ Verdict (outcome.Limit limit)
VerdictYields refusal (outcome.ReadFault part) = ⊤
VerdictYields refusal outcome.WriteFault = ⊤
VerdictYields refusal outcome.NoMemory = ⊤

-- what an answer may be where there is a refusal: that refusal, or an error of reading or writing
abbrev pub YieldsTo : RaOutcome → RaOutcome → Type 0
YieldsTo refusal (Verdict o) = VerdictYields refusal o
YieldsTo refusal (Refused part fault) = refusal ≡ Refused part (placeless fault)

-- usage, or an error where no file is read
abbrev pub IsUsageOrFault : RaOutcome → Type 0
IsUsageOrFault (Verdict o) = top.YieldsToWrite outcome.Usage o
IsUsageOrFault (Refused part fault) = ⊥

-- a verdict on the two texts, or out of memory
abbrev pub IsVerdictOrMemory : RaOutcome → Type 0
IsVerdictOrMemory (Verdict o) = top.IsVerdictOrMemory o
IsVerdictOrMemory (Refused part fault) = ⊥

-- no count of a file that the command names rose
abbrev pub NoFileRose : Call → Type 0
NoFileRose c = (k : RaCommand) → ra_command c.words ≡ Some k → (part : Part) → IsNamed (source_from None (paths_of k)) c.files.held part
    → Failed c.files (file_at k part) → ⊥

-- ---- what is written

abbrev pub IsVerdictText : Call → Outcome → List ℕ → Type 0
IsVerdictText c outcome.Agree said = (a : Asked) × IsRead c a × Agrees a × (said ≡ agree_text)
IsVerdictText c (outcome.Witness keep) said = (a : Asked) × IsRead c a × IsSmallest a keep × (said ≡ witness_of a keep)
IsVerdictText c (outcome.Spent s) said = (a : Asked) × IsRead c a × (a.input.conflicts ≡ Some s.budget) × IsGivenUp a s × (said ≡ spent_of a s)
IsVerdictText c o said = said ≡ refusal_text (limit_of (ra_command c.words)) (Verdict o)

-- the text of an outcome; a verdict is printed with the input of which it is one
abbrev pub IsTextOf : Call → RaOutcome → List ℕ → Type 0
IsTextOf c (Verdict o) said = IsVerdictText c o said
IsTextOf c (Refused part fault) said = said ≡ refusal_text (limit_of (ra_command c.words)) (Refused part fault)

-- this sink grew by all of a text of the outcome
abbrev pub GrewByWhole : Call → RaOutcome → Log → Type 0
GrewByWhole c o sink = (said : List ℕ) × IsTextOf c o said × Grew sink said

-- this sink grew by a prefix of a text of the outcome
abbrev pub GrewByPrefix : Call → RaOutcome → Log → Type 0
GrewByPrefix c o sink = (said : List ℕ) × IsTextOf c o said × GrewPartly sink said

-- the whole text of the outcome went to its sink, and nothing to the other
pub record WritesAll (c : Call) (o : RaOutcome) (out err : Log) : Type 0 where
  pub whole : GrewByWhole c o (at_place (place o) out err)
  pub kept : IsKept (other_place (place o) out err)

-- a prefix of a text of an outcome that its row allows went to its sink, and nothing to the other
pub record WritesPart (c : Call) (out err : Log) (o : RaOutcome) : Type 0 where
  pub row : Row c o
  pub begun : GrewByPrefix c o (at_place (place o) out err)
  pub kept : IsKept (other_place (place o) out err)

-- the same, where that sink failed
pub record WritesUntilFault (c : Call) (out err : Log) (o : RaOutcome) : Type 0 where
  pub begun : WritesPart c out err o
  pub broke : Broke (at_place (place o) out err)

-- how the writing of a text ended: all of it was taken, the sink failed, or out of memory
abbrev pub WritesTo : Log → RaOutcome → List ℕ → RaOutcome → Type 0
WritesTo sink o said result =
    ((result ≡ o) × Grew sink said)
    ⊎ (((result ≡ Verdict outcome.WriteFault) × Broke sink × GrewPartly sink said)
    ⊎ ((result ≡ Verdict outcome.NoMemory) × GrewPartly sink said))

-- the same at the sink of an outcome, with nothing at the other
pub record Writes (out err : Log) (o : RaOutcome) (said : List ℕ) (result : RaOutcome) : Type 0 where
  pub ends : WritesTo (at_place (place o) out err) o said result
  pub kept : IsKept (other_place (place o) out err)

-- what is said of what is asked: a verdict
abbrev pub Judges : Asked → Outcome → List ℕ → Type 0
Judges a outcome.Agree said = Agrees a × (said ≡ agree_text)
Judges a (outcome.Witness keep) said = IsSmallest a keep × (said ≡ witness_of a keep)
Judges a (outcome.Spent s) said = (a.input.conflicts ≡ Some s.budget) × IsGivenUp a s × (said ≡ spent_of a s)
Judges a _ said = ⊥

abbrev pub Judged : Asked → RaOutcome → List ℕ → Type 0
Judged a (Verdict o) said = Judges a o said
Judged a (Refused part fault) said = ⊥
