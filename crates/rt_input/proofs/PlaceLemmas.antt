-- Which place the syntax error of a refusal names.
use Rattle.std.proofs.Common.{◌≡◌, Result, Ok, sym, subst}
use Rattle.std.specs.Prelude.{IfOk}
use Rattle.rt_input.specs.declared.part.Part.{Part}
use Rattle.rt_input.specs.declared.outcome.Outcome.{Outcome}
use Rattle.rt_input.specs.declared.outcome.Outcome.TheVariants as outcome
use Rattle.rt_input.specs.Placed.{Parts, Placed, PlacedIn, Stands}
use Rattle.rt_input.specs.Source.{Text}

-- ---- the errors of a text

-- ---- errors without a place

-- ---- from a text to the texts

pub placed_at : (texts : Parts) (p : Part) (text : Text) (o : Outcome) → texts p ≡ Ok text → PlacedIn p text o → Placed texts o
placed_at texts p text (outcome.Refused q fault) is h =
    subst (λ (r : Part). IfOk (texts r) (λ t. Stands t fault)) (sym h.0) (subst (λ (r : Result Text Outcome). IfOk r (λ t. Stands t fault)) (sym is) h.1)
placed_at texts p text outcome.Agree is h = tt
placed_at texts p text (outcome.Witness keep) is h = tt
placed_at texts p text outcome.Usage is h = tt
placed_at texts p text (outcome.Limit limit) is h = tt
placed_at texts p text (outcome.Spent s) is h = tt
placed_at texts p text (outcome.ReadFault q) is h = tt
placed_at texts p text outcome.WriteFault is h = tt
placed_at texts p text outcome.NoMemory is h = tt
