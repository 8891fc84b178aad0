-- What stops the reading of a command's files.
use Rattle.std.specs.Prelude.{◌≡◌, IsTrue, None, Result, Err, ⊤}
use Rattle.rt_input.specs.declared.part.Part.{Part}
use Rattle.rt_input.specs.declared.outcome.Limit.{Limit}
use Rattle.rt_input.specs.declared.outcome.Outcome.{Outcome}
use Rattle.rt_input.specs.declared.outcome.Outcome.TheVariants as outcome
use Rattle.rt_input.specs.Faults as top
use Rattle.rt_input.specs.Source.{source_from}
use Rattle.rt_input.specs.Steps.{Failed, IsLongFor, Seen, of_contents}
use Rattle.rt_ra_run.specs.declared.command.RaCommand.{RaCommand}
use Rattle.rt_ra_run.specs.declared.outcome.RaOutcome.{RaOutcome}
use Rattle.rt_ra_run.specs.declared.outcome.RaOutcome.TheVariants.{Verdict, Refused}
use Rattle.rt_ra_run.specs.Faults.{is_refusal, placeless}
use Rattle.rt_ra_run.specs.Judged.{file_at, paths_of}

-- ---- a step that reads no file: the refusal that is judged, or out of memory

abbrev pub VerdictRefuses : {T : Type 0} → Result T RaOutcome → Outcome → Type 0
VerdictRefuses judged outcome.Agree = ⊥
VerdictRefuses judged (outcome.Witness keep) = ⊥
VerdictRefuses judged outcome.Usage = ⊥
VerdictRefuses judged (outcome.Refused part fault) = IsTrue (top.is_refusal fault) × (judged ≡ Err (Verdict (outcome.Refused part (top.placeless fault))))
VerdictRefuses judged (outcome.Spent s) = ⊥
VerdictRefuses judged (outcome.Limit limit) = IsTrue (of_contents limit) × (judged ≡ Err (Verdict (outcome.Limit limit)))
VerdictRefuses judged (outcome.ReadFault part) = ⊥
VerdictRefuses judged outcome.WriteFault = ⊥
VerdictRefuses judged outcome.NoMemory = ⊤

abbrev pub Refuses : {T : Type 0} → Result T RaOutcome → RaOutcome → Type 0
Refuses judged (Verdict o) = VerdictRefuses judged o
Refuses judged (Refused part fault) = IsTrue (is_refusal fault) × (judged ≡ Err (Refused part (placeless fault)))

-- ---- a step that reads

-- what has to be where a limit is passed: a file that is too long was read so far
abbrev pub IsLong : Seen → RaCommand → Limit → Type 0
IsLong s k limit = IsLongFor s (source_from None (paths_of k)) limit

-- an error of reading comes only where the count of the part's file rose, and a refusal is the one
-- that is judged; `Reached` is how far the reading came

abbrev pub VerdictStops : {T : Type 0} → Seen → RaCommand → Result T RaOutcome → (Part → Type 0) → Outcome → Type 0
VerdictStops s k judged Reached outcome.Agree = ⊥
VerdictStops s k judged Reached (outcome.Witness keep) = ⊥
VerdictStops s k judged Reached outcome.Usage = ⊥
VerdictStops s k judged Reached (outcome.Refused part fault) = IsTrue (top.is_refusal fault) × (IsTrue s.tells → judged ≡ Err (Verdict (outcome.Refused part (top.placeless fault))))
VerdictStops s k judged Reached (outcome.Spent spent) = ⊥
VerdictStops s k judged Reached (outcome.Limit limit) = IsLong s k limit × (IsTrue s.tells → judged ≡ Err (Verdict (outcome.Limit limit)))
VerdictStops s k judged Reached (outcome.ReadFault part) = Failed s (file_at k part) × (IsTrue s.tells → Reached part)
VerdictStops s k judged Reached outcome.WriteFault = ⊥
VerdictStops s k judged Reached outcome.NoMemory = ⊤

abbrev pub Stops : {T : Type 0} → Seen → RaCommand → Result T RaOutcome → (Part → Type 0) → RaOutcome → Type 0
Stops s k judged Reached (Verdict o) = VerdictStops s k judged Reached o
Stops s k judged Reached (Refused part fault) = IsTrue (is_refusal fault) × (IsTrue s.tells → judged ≡ Err (Refused part (placeless fault)))
