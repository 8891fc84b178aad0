-- One step of the walk after another; the first error ends all.
use Rattle.std.specs.Prelude.{Result, Ok, Err}
use Rattle.rt_ra_tree.specs.declared.fault.RaFault.{RaFault}

infixl 10 ◌>>=◌
abbrev pub ◌>>=◌ : {A B : Type 0} → Result A RaFault → (A → Result B RaFault) → Result B RaFault
Ok x >>= f = f x
Err e >>= f = Err e
