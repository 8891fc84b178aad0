-- The errors of an algebra text as outcomes: out of memory is an outcome of its own, and each other
-- error is a refusal of the text.
use Rattle.std.specs.Prelude.{Bool, true, false, Result, Ok, Err}
use Rattle.rt_token.specs.declared.fault.LexFault.{LexFault}
use Rattle.rt_token.specs.declared.fault.LexFault.TheVariants as lex
use Rattle.rt_ra_tree.specs.declared.fault.RaFault.{RaFault}
use Rattle.rt_ra_tree.specs.declared.fault.RaFault.TheVariants as fault
use Rattle.rt_input.specs.declared.part.Part.{Part}
use Rattle.rt_input.specs.declared.outcome.Outcome.TheVariants as outcome
use Rattle.rt_input.specs.Faults.{is_lex_refusal}
use Rattle.rt_ra_run.specs.declared.outcome.RaOutcome.{RaOutcome}
use Rattle.rt_ra_run.specs.declared.outcome.RaOutcome.TheVariants.{Verdict, Refused}

-- the value, or the outcome of the error
abbrev pub or_outcome : {T E : Type 0} → (E → RaOutcome) → Result T E → Result T RaOutcome
or_outcome f (Ok x) = Ok x
or_outcome f (Err e) = Err (f e)

abbrev pub lex_outcome : Part → LexFault → RaOutcome
lex_outcome p (lex.NotUtf8 at) = Refused p (fault.Lex (lex.NotUtf8 at))
lex_outcome p (lex.BadByte at) = Refused p (fault.Lex (lex.BadByte at))
lex_outcome p (lex.OpenText at) = Refused p (fault.Lex (lex.OpenText at))
lex_outcome p (lex.OpenComment at) = Refused p (fault.Lex (lex.OpenComment at))
lex_outcome p (lex.BigNumber at) = Refused p (fault.Lex (lex.BigNumber at))
lex_outcome p lex.NoMemory = Verdict outcome.NoMemory

abbrev pub fault_outcome : Part → RaFault → RaOutcome
fault_outcome p (fault.Lex f) = lex_outcome p f
fault_outcome p fault.TooDeep = Refused p fault.TooDeep
fault_outcome p (fault.Syntax at) = Refused p (fault.Syntax at)
fault_outcome p (fault.UnknownTable n) = Refused p (fault.UnknownTable n)
fault_outcome p (fault.UnknownColumn n) = Refused p (fault.UnknownColumn n)
fault_outcome p (fault.DuplicateColumn n) = Refused p (fault.DuplicateColumn n)
fault_outcome p fault.TypeMismatch = Refused p fault.TypeMismatch
fault_outcome p fault.Columns = Refused p fault.Columns
fault_outcome p fault.NoMemory = Verdict outcome.NoMemory

-- not out of memory
abbrev pub is_refusal : RaFault → Bool
is_refusal (fault.Lex f) = is_lex_refusal f
is_refusal fault.TooDeep = true
is_refusal (fault.Syntax at) = true
is_refusal (fault.UnknownTable n) = true
is_refusal (fault.UnknownColumn n) = true
is_refusal (fault.DuplicateColumn n) = true
is_refusal fault.TypeMismatch = true
is_refusal fault.Columns = true
is_refusal fault.NoMemory = false

-- the error without the place of a syntax error, which is judged as 0
abbrev pub placeless : RaFault → RaFault
placeless (fault.Lex f) = fault.Lex f
placeless fault.TooDeep = fault.TooDeep
placeless (fault.Syntax at) = fault.Syntax 0
placeless (fault.UnknownTable n) = fault.UnknownTable n
placeless (fault.UnknownColumn n) = fault.UnknownColumn n
placeless (fault.DuplicateColumn n) = fault.DuplicateColumn n
placeless fault.TypeMismatch = fault.TypeMismatch
placeless fault.Columns = fault.Columns
placeless fault.NoMemory = fault.NoMemory
