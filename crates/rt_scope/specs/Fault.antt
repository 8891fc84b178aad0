-- Errors: which of them is out of memory, and the first of several steps that fails.
use Rattle.std.specs.Prelude.{Bool, true, false, Result, Ok, Err}
use Rattle.rt_scope.specs.declared.fault.NameFault.{NameFault}
use Rattle.rt_scope.specs.declared.fault.NameFault.TheVariants as fault

abbrev pub is_memory : NameFault → Bool
is_memory (fault.UnknownTable n) = false
is_memory (fault.UnknownColumn n) = false
is_memory (fault.Ambiguous n) = false
is_memory (fault.DuplicateAlias n) = false
is_memory fault.TypeMismatch = false
is_memory fault.Columns = false
is_memory fault.ArithWidth = false
is_memory fault.NoMemory = true

-- one step after another; the first error ends all
infixl 10 ◌>>=◌
abbrev pub ◌>>=◌ : {A B : Type 0} → Result A NameFault → (A → Result B NameFault) → Result B NameFault
Ok x >>= f = f x
Err e >>= f = Err e
