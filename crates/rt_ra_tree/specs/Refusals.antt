-- What parsing answers, and its first refusal.
use Rattle.std.specs.Prelude.{◌≡◌, Bool, true, false, List, Option, Some, None, Result, Ok, Err}
use Rattle.rt_token.specs.Places.{IsPlace}
use Rattle.rt_token.specs.Words.{kinds}
use Rattle.rt_ra_tree.specs.Depth.{is_deep}
use Rattle.rt_ra_tree.specs.Formed.{IsTreeOf}
use Rattle.rt_ra_tree.specs.declared.fault.RaFault.{RaFault}
use Rattle.rt_ra_tree.specs.declared.fault.RaFault.TheVariants as fault
use Rattle.rt_ra_tree.specs.declared.tree.RaText.{RaText}
use Rattle.rt_token.specs.declared.token.Token.{Token}

abbrev pub refusal_of : Bool → Option RaFault
refusal_of true = Some fault.TooDeep
refusal_of false = None

abbrev pub refusal : List Token → Option RaFault
refusal tokens = refusal_of (is_deep (kinds tokens))

abbrev pub HasNoTree : List Token → Type 0
HasNoTree tokens = (t : RaText) → ¬ IsTreeOf tokens t

-- when each answer comes; NoMemory may come anywhere
abbrev pub IsAnswer : List Token → Result RaText RaFault → Type 0
IsAnswer tokens (Ok t) = IsTreeOf tokens t
IsAnswer tokens (Err fault.TooDeep) = refusal tokens ≡ Some fault.TooDeep
IsAnswer tokens (Err (fault.Syntax at)) = (refusal tokens ≡ None) × HasNoTree tokens × IsPlace tokens at
IsAnswer tokens (Err fault.NoMemory) = Unit {0}
IsAnswer tokens (Err (fault.Lex f)) = ⊥
IsAnswer tokens (Err (fault.UnknownTable n)) = ⊥
IsAnswer tokens (Err (fault.UnknownColumn n)) = ⊥
IsAnswer tokens (Err (fault.DuplicateColumn n)) = ⊥
IsAnswer tokens (Err fault.TypeMismatch) = ⊥
IsAnswer tokens (Err fault.Columns) = ⊥

abbrev pub is_memory : RaFault → Bool
is_memory (fault.Lex f) = false
is_memory fault.TooDeep = false
is_memory (fault.Syntax at) = false
is_memory (fault.UnknownTable n) = false
is_memory (fault.UnknownColumn n) = false
is_memory (fault.DuplicateColumn n) = false
is_memory fault.TypeMismatch = false
is_memory fault.Columns = false
is_memory fault.NoMemory = true
