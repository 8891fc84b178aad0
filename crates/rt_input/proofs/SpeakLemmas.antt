-- Of which parts an outcome speaks.
use Rattle.std.proofs.Common.{◌≡◌, refl}
use Rattle.rt_load.specs.declared.fault.LoadFault.{LoadFault}
use Rattle.rt_load.specs.declared.fault.LoadFault.TheVariants as load
use Rattle.rt_input.specs.declared.part.Part.{Part}
use Rattle.rt_input.specs.Faults.{load_outcome}
use Rattle.rt_input.specs.Steps.{SpeaksOf}

pub load_part : (p : Part) (fault : LoadFault) → SpeaksOf (λ q. q ≡ p) (load_outcome p fault)
load_part p load.NoMemory = tt
load_part p load.TooManyRows = tt
load_part p load.BadHeader = refl
load_part p (load.FieldCount n) = refl
load_part p (load.BadInteger n c) = refl
load_part p (load.BadText n c) = refl
