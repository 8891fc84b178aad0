-- The errors of a walk: those of parsing are none of them.
use Rattle.rt_ra_tree.specs.declared.fault.RaFault.{RaFault}
use Rattle.rt_ra_tree.specs.declared.fault.RaFault.TheVariants as fault

abbrev pub IsWalkFault : RaFault → Type 0
IsWalkFault (fault.Lex f) = ⊥
IsWalkFault fault.TooDeep = ⊥
IsWalkFault (fault.Syntax at) = ⊥
IsWalkFault (fault.UnknownTable n) = Unit {0}
IsWalkFault (fault.UnknownColumn n) = Unit {0}
IsWalkFault (fault.DuplicateColumn n) = Unit {0}
IsWalkFault fault.TypeMismatch = Unit {0}
IsWalkFault fault.Columns = Unit {0}
IsWalkFault fault.NoMemory = Unit {0}
