-- Which call answers a command.
use Rattle.std.specs.Prelude.{ℕ, List, [], ◌∷◌, codes, if◌then◌else◌}
use Rattle.std.specs.Str.{bytes_eq}
use Rattle.rt_io.specs.Programs.{plus_command}
use Rattle.rt_io.specs.declared.commands.PlusCommand.{PlusCommand}
use Rattle.rt_io.specs.declared.commands.PlusCommand.TheVariants as plus
use Rattle.ratest_c.specs.declared.service.Service.{Service}
use Rattle.ratest_c.specs.declared.service.Service.TheVariants.{Ratest, Algebra, Tools, Certificates}

-- the second program sends each list of arguments that names none of its commands to `ra`
abbrev pub by_first : List (List ℕ) → Service
by_first [] = Ratest
by_first (first ∷ rest) = if bytes_eq first (codes "ra") then Algebra else Ratest

abbrev pub service_for : PlusCommand → List (List ℕ) → Service
service_for plus.Ra words = by_first words
service_for plus.Row words = Tools
service_for plus.Grade words = Tools
service_for plus.Prove words = Certificates
service_for plus.Check words = Certificates

-- as the second program's function decides by the first argument, and else `ratest`
abbrev pub service_of : List (List ℕ) → Service
service_of words = service_for (plus_command words) words
