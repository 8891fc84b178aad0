-- Which command of the second program arguments are for.
use Rattle.std.specs.Prelude.{ℕ, List, [], ◌∷◌, codes, if◌then◌else◌}
use Rattle.std.specs.Str.{bytes_eq}
use Rattle.rt_io.specs.declared.commands.PlusCommand.{PlusCommand}
use Rattle.rt_io.specs.declared.commands.PlusCommand.TheVariants.{Ra, Row, Grade, Prove, Check}

-- the command that this argument names, and `ra` where it names none
abbrev pub named : List ℕ → PlusCommand
named word =
    if bytes_eq word (codes "row") then Row
    else if bytes_eq word (codes "grade") then Grade
    else if bytes_eq word (codes "prove") then Prove
    else if bytes_eq word (codes "check") then Check
    else Ra

-- the first argument names it
abbrev pub plus_command : List (List ℕ) → PlusCommand
plus_command [] = Ra
plus_command (first ∷ rest) = named first
