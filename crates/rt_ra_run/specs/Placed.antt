-- The places that a syntax error may name: the start of a token of its text, the end of the last
-- one, or 0 where the text has no token. Which of these it is stays open.
use Rattle.std.specs.Prelude.{◌≡◌, IfOk, ⊤}
use Rattle.rt_ra_tree.specs.declared.fault.RaFault.{RaFault}
use Rattle.rt_ra_tree.specs.declared.fault.RaFault.TheVariants as fault
use Rattle.rt_input.specs.declared.outcome.Outcome.TheVariants as outcome
use Rattle.rt_input.specs.declared.part.Part.{Part}
use Rattle.rt_input.specs.Held.{Holding, text_of}
use Rattle.rt_input.specs.Placed as top
use Rattle.rt_input.specs.Placed.{IsPlaceIn}
use Rattle.rt_input.specs.Source.{Text, tables_in}
use Rattle.rt_ra_run.specs.declared.command.RaCommand.{RaCommand}
use Rattle.rt_ra_run.specs.declared.outcome.RaOutcome.{RaOutcome}
use Rattle.rt_ra_run.specs.declared.outcome.RaOutcome.TheVariants.{Verdict, Refused}
use Rattle.rt_ra_run.specs.Judged.{texts_of}

abbrev pub Stands : Text → RaFault → Type 0
Stands text (fault.Lex f) = ⊤
Stands text fault.TooDeep = ⊤
Stands text (fault.Syntax at) = IsPlaceIn text at
Stands text (fault.UnknownTable n) = ⊤
Stands text (fault.UnknownColumn n) = ⊤
Stands text (fault.DuplicateColumn n) = ⊤
Stands text fault.TypeMismatch = ⊤
Stands text fault.Columns = ⊤
Stands text fault.NoMemory = ⊤

-- the place of a refusal's syntax error is in the text of its part: an algebra text, or the schema
abbrev pub Placed : RaCommand → Holding → RaOutcome → Type 0
Placed k held (Verdict o) = top.Placed (text_of (tables_in k.schema k.dir) held) o
Placed k held (Refused part f) = IfOk (texts_of k held part) (λ text. Stands text f)

-- out of memory, or a refusal of this part whose syntax error has its place in this text
abbrev pub PlacedIn : Part → Text → RaOutcome → Type 0
PlacedIn part text (Verdict outcome.NoMemory) = ⊤
PlacedIn part text (Verdict _) = ⊥
PlacedIn part text (Refused p f) = (p ≡ part) × Stands text f

-- it is no syntax error, whatever the texts
abbrev pub IsPlaceless : RaOutcome → Type 0
IsPlaceless o = (k : RaCommand) (held : Holding) → Placed k held o
