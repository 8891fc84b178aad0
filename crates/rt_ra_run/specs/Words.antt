-- The arguments of the command: `ra`, and then those of a command over files, the first of whose
-- four plain arguments isn't `made`.
use Rattle.std.specs.Prelude.{◌≡◌, ℕ, ⊤, List, [], ◌∷◌, Option, None, Some, codes, if◌then◌else◌, option_and_then}
use Rattle.std.specs.Option.{ForSome}
use Rattle.std.specs.Str.{bytes_eq}
use Rattle.rt_io.specs.Command.{command}
use Rattle.rt_io.specs.Ranges.{Command, IsWithin, most_conflicts, most_work}
use Rattle.rt_input.specs.declared.outcome.Outcome.{Outcome}
use Rattle.rt_input.specs.declared.outcome.Outcome.TheVariants as outcome
use Rattle.rt_input.specs.declared.part.QueryPart.{QueryPart}
use Rattle.rt_input.specs.declared.part.QueryPart.TheVariants.{First, Second}
use Rattle.rt_input.specs.Source.{Text}
use Rattle.rt_ra_run.specs.declared.command.RaCommand.{RaCommand}

-- the arguments after `ra`
abbrev pub behind_ra : List Text → Option (List Text)
behind_ra [] = None
behind_ra (first ∷ rest) = if bytes_eq first (codes "ra") then Some rest else None

abbrev pub with_paths : List Text → Command → Option RaCommand
with_paths (schema ∷ dir ∷ query1 ∷ query2 ∷ []) c =
    if bytes_eq schema (codes "made") then None
    else Some (record { schema = schema; dir = dir; query1 = query1; query2 = query2; conflicts = c.conflicts; work_limit = c.work_limit })
with_paths _ c = None

abbrev pub over_files : Command → Option RaCommand
over_files c = with_paths c.paths c

-- the command that the arguments mean
abbrev pub ra_command : List Text → Option RaCommand
ra_command words = option_and_then (λ rest. option_and_then over_files (command rest)) (behind_ra words)

-- the path of a query
abbrev pub query_path : RaCommand → QueryPart → Text
query_path k First = k.query1
query_path k Second = k.query2

-- the numbers of the options are in their ranges
pub record IsInRange (k : RaCommand) : Type 0 where
  pub conflicts : ForSome k.conflicts (IsWithin most_conflicts)
  pub work_limit : IsWithin most_work k.work_limit

-- the work limit in force
abbrev pub limit_of : Option RaCommand → ℕ
limit_of None = 0
limit_of (Some k) = k.work_limit

-- what stops the reading of the arguments
abbrev pub WordsStop : Option RaCommand → Outcome → Type 0
WordsStop o outcome.Usage = o ≡ None
WordsStop o outcome.NoMemory = ⊤
WordsStop o _ = ⊥
