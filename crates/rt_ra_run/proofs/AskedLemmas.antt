-- What is asked of accepted texts.
use Rattle.std.proofs.Common.{◌≡◌, ◌≤◌, IsTrue, refl, sym, subst}
use Rattle.std.specs.Prelude.{None}
use Rattle.std.specs.Option.{ForSome}
use Rattle.rt_schema.specs.Given.{IsOf, is_instance, places, row_limit}
use Rattle.rt_io.specs.Ranges.{IsWithin, most_made}
use Rattle.rt_input.specs.declared.tables.Tables.{Tables}
use Rattle.rt_input.specs.Accepted.{IsAccepted}
use Rattle.rt_ra_run.specs.declared.asked.Asked.{Asked}
use Rattle.rt_ra_run.specs.declared.command.RaCommand.{RaCommand}
use Rattle.rt_ra_run.specs.declared.query.Lowered.{Lowered}
use Rattle.rt_ra_run.specs.Asked.{HasNumbers, IsAsked, IsLowered, IsMeant}
use Rattle.rt_ra_run.specs.Judged.{asked_of, data_in, input_of}
use Rattle.rt_ra_run.specs.Words.{IsInRange}

not-made : ForSome None (IsWithin most_made)
not-made n is = cc

pub accepted_of : (k : RaCommand) (t : Tables) (left right : Lowered) → IsOf t.schema t.given → places t.given.tables ≤ row_limit → IsLowered t.schema left → IsLowered t.schema right
    → right.typed.kinds ≡ left.typed.kinds → IsInRange k → IsAccepted (input_of k (data_in t) left right)
accepted_of k t left right of few first second kinds range = record {
  of_schema = of;
  left = first.typed;
  right = second.typed;
  kinds = kinds;
  few = few;
  conflicts = range.conflicts;
  work_limit = range.work_limit;
  made = not-made;
}

asked-sound : (k : RaCommand) (t : Tables) (left right : Lowered) → IsAccepted (input_of k (data_in t) left right) → IsTrue (is_instance t.given)
    → IsLowered t.schema left → IsLowered t.schema right → IsAsked (asked_of k (data_in t) left right)
asked-sound k t left right sound instance first second = record { sound = sound; instance = instance; left = first.becomes; right = second.becomes }

pub asked_sound : (k : RaCommand) (t : Tables) (left right : Lowered) (a : Asked) → a ≡ asked_of k (data_in t) left right → IsOf t.schema t.given → places t.given.tables ≤ row_limit
    → IsTrue (is_instance t.given) → IsLowered t.schema left → IsLowered t.schema right → right.typed.kinds ≡ left.typed.kinds → IsInRange k → IsAsked a
asked_sound k t left right a made of few instance first second kinds range =
    subst IsAsked (sym made) (asked-sound k t left right (accepted_of k t left right of few first second kinds range) instance first second)

asked-means : (k : RaCommand) (t : Tables) (left right : Lowered) → IsLowered t.schema left → IsLowered t.schema right → IsMeant (asked_of k (data_in t) left right)
asked-means k t left right first second = record { left = first.means; right = second.means }

pub asked_means : (k : RaCommand) (t : Tables) (left right : Lowered) (a : Asked) → a ≡ asked_of k (data_in t) left right → IsLowered t.schema left → IsLowered t.schema right → IsMeant a
asked_means k t left right a made first second = subst IsMeant (sym made) (asked-means k t left right first second)

asked-numbers : (k : RaCommand) (t : Tables) (left right : Lowered) → HasNumbers k (asked_of k (data_in t) left right)
asked-numbers k t left right = record { conflicts = refl; work_limit = refl; made = refl }

pub asked_numbers : (k : RaCommand) (t : Tables) (left right : Lowered) (a : Asked) → a ≡ asked_of k (data_in t) left right → HasNumbers k a
asked_numbers k t left right a made = subst (HasNumbers k) (sym made) (asked-numbers k t left right)
