-- A text that is no query: what is judged of it, and the place of its syntax error.
use Rattle.std.proofs.Common.{◌≡◌, Result, Err, refl}
use Rattle.rt_input.specs.declared.outcome.Outcome.TheVariants as outcome
use Rattle.rt_input.specs.Judged.{then_read}
use Rattle.rt_ra_run.specs.declared.outcome.RaOutcome.{RaOutcome}

pub then_err : {T U : Type 0} (r : Result T RaOutcome) (f : T → Result U RaOutcome) (e : RaOutcome) → r ≡ Err e → then_read r f ≡ Err e
then_err r f e p = rw p refl

-- ---- what is judged

-- ---- the place of a syntax error

-- ---- a tree without a meaning
