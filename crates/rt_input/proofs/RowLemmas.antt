-- What the rows of what stops a reading follow from.
use Rattle.std.proofs.Common.{◌≡◌, Result, Ok, Err}
use Rattle.std.specs.Prelude.{List, Some, IfOk, IsOkAnd}
use Rattle.rt_io.specs.Command.{command}
use Rattle.rt_io.specs.Ranges.{Command}
use Rattle.rt_schema.specs.declared.table.Table.{Table as TableOf}
use Rattle.rt_input.specs.declared.outcome.Outcome.{Outcome}
use Rattle.rt_input.specs.declared.part.Part.{Part}
use Rattle.rt_input.specs.declared.part.Part.TheVariants.{Schema, Table, Query1, Query2, Queries}
use Rattle.rt_input.specs.declared.source.Source.{Source}
use Rattle.rt_input.specs.Judged.{schema_judged, HasTable, IsNamed, Reaches, TableReached}
use Rattle.rt_input.specs.Held.{Holding}
use Rattle.rt_input.specs.Reading.{Call, IsTold}
use Rattle.rt_input.specs.Source.{IsKnown, source_of}

-- ---- from the reading of the files to the rows

pub known : (c : Call) (k : Command) → command c.words ≡ Some k → IsTold c → IsKnown c.files.tells (source_of k)
known c k e told = told k e

-- ---- what is reached is named

pub named_from_reached : (source : Source) (held : Holding) (part : Part) → Reaches source held part → IsNamed source held part
named_from_reached source held Schema reached = tt
named_from_reached source held (Table at name) reached = weaker (schema_judged source held) reached
  where
    weaker : (r : Result (List TableOf) Outcome) → IsOkAnd r (TableReached source held at name) → IsOkAnd r (HasTable at name)
    weaker (Ok schema) h = h.0
    weaker (Err e) h = h
named_from_reached source held Query1 reached = tt
named_from_reached source held Query2 reached = tt
named_from_reached source held Queries reached = reached

-- ---- a fact for a value that is there

pub if_ok : {X E : Type 0} (P Q : X → Type 0) (r : Result X E) → ((x : X) → P x → Q x) → IfOk r P → IfOk r Q
if_ok P Q (Ok x) f p = f x p
if_ok P Q (Err e) f p = tt
