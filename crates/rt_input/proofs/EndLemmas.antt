-- Which file is the last one that a reading begins.
use Rattle.std.proofs.Common.{◌≡◌, ◌∙◌, Bool, true, false, List, [], ◌∷◌, ◌++◌, Result, Ok, Err, ℕ, append_assoc, append-nil, refl, sym, ap, subst, nat_le, if◌then◌else◌}
use Rattle.std.specs.Prelude.{Option, None, Some, IfErr}
use Rattle.rt_schema.specs.declared.table.Table.{Table as TableOf}
use Rattle.rt_input.specs.Accepted.{Accepted}
use Rattle.rt_input.specs.Begun.{AddsAll, EndsAt, EndsAtLimit, EndsWith, names_in, part_files}
use Rattle.rt_input.specs.Faults.{placeless}
use Rattle.rt_input.specs.Judged.{total_work, within_limit}
use Rattle.rt_input.specs.Source.{Text, file_of}
use Rattle.rt_input.specs.Steps.{IsLimitOf, Refuses, SpeaksOf}
use Rattle.rt_input.specs.declared.outcome.Fault.{Fault}
use Rattle.rt_input.specs.declared.outcome.Limit.{Limit}
use Rattle.rt_input.specs.declared.outcome.Limit.TheVariants as limit
use Rattle.rt_input.specs.declared.outcome.Outcome.{Outcome}
use Rattle.rt_input.specs.declared.outcome.Outcome.TheVariants as outcome
use Rattle.rt_input.specs.declared.part.Part.{Part}
use Rattle.rt_input.specs.declared.part.Part.TheVariants.{Queries}
use Rattle.rt_input.specs.declared.source.Source.{Source}
use Rattle.rt_input.specs.declared.source.Source.TheVariants.{Files, Made}

-- ---- of one file

-- it was begun just now
pub ends_with : (file : Option Text) (old new : List Text) → new ≡ old ++ names_in file → EndsWith file old new
ends_with None old new is = tt
ends_with (Some name) old new is = ([], is ∙ ap (λ xs. xs ++ name ∷ []) (sym (append-nil old)))

-- in a later step
pub ends_on : (file : Option Text) (old mid new more : List Text) → mid ≡ old ++ more → EndsWith file mid new → EndsWith file old new
ends_on None old mid new more first ends = tt
ends_on (Some name) old mid new more first ends = (
  more ++ ends.0,
  ends.1 ∙ ap (λ xs. (xs ++ ends.0) ++ name ∷ []) first ∙ ap (λ xs. xs ++ name ∷ []) (append_assoc old more ends.0),
)

-- there is none
no_queries : (source : Source) → file_of source Queries ≡ None
no_queries (Files paths) = refl
no_queries (Made texts) = refl

no_file : (source : Source) (p : Part) (old new : List Text) → p ≡ Queries → EndsWith (file_of source p) old new
no_file source p old new same =
    subst (λ (file : Option Text). EndsWith file old new) (sym (ap (file_of source) same ∙ no_queries source)) tt

-- ---- of an outcome

module _ (source : Source) where
  -- it speaks of the part whose file was begun just now
  at_part : (part p : Part) (old new : List Text) → new ≡ old ++ part_files source part → p ≡ part → EndsWith (file_of source p) old new
  at_part part p old new is same = subst (λ (q : Part). EndsWith (file_of source q) old new) (sym same) (ends_with (file_of source part) old new is)

  at_limit : (part : Part) (l : Limit) (old new : List Text) → new ≡ old ++ part_files source part → IsLimitOf (λ p. p ≡ part) l → EndsAtLimit source l old new
  at_limit part (limit.TooLong p) old new is speaks = at_part part p old new is speaks
  at_limit part limit.Tables old new is speaks = tt
  at_limit part (limit.Columns table) old new is speaks = tt
  at_limit part (limit.Rules table) old new is speaks = tt
  at_limit part limit.Rows old new is speaks = tt
  at_limit part (limit.Work work) old new is speaks = tt

  pub ends_at : (part : Part) (o : Outcome) (old new : List Text) → new ≡ old ++ part_files source part → SpeaksOf (λ p. p ≡ part) o → EndsAt source o old new
  ends_at part outcome.Agree old new is speaks = tt
  ends_at part (outcome.Witness keep) old new is speaks = tt
  ends_at part outcome.Usage old new is speaks = tt
  ends_at part (outcome.Refused p fault) old new is speaks = at_part part p old new is speaks
  ends_at part (outcome.Spent s) old new is speaks = tt
  ends_at part (outcome.Limit l) old new is speaks = at_limit part l old new is speaks
  ends_at part (outcome.ReadFault p) old new is speaks = at_part part p old new is speaks
  ends_at part outcome.WriteFault old new is speaks = tt
  ends_at part outcome.NoMemory old new is speaks = tt

  limit_later : (l : Limit) (old mid new more : List Text) → mid ≡ old ++ more → EndsAtLimit source l mid new → EndsAtLimit source l old new
  limit_later (limit.TooLong p) old mid new more first ends = ends_on (file_of source p) old mid new more first ends
  limit_later limit.Tables old mid new more first ends = tt
  limit_later (limit.Columns table) old mid new more first ends = tt
  limit_later (limit.Rules table) old mid new more first ends = tt
  limit_later limit.Rows old mid new more first ends = tt
  limit_later (limit.Work work) old mid new more first ends = tt

  -- it comes from a later step
  pub ends_later : (o : Outcome) (old mid new more : List Text) → mid ≡ old ++ more → EndsAt source o mid new → EndsAt source o old new
  ends_later outcome.Agree old mid new more first ends = tt
  ends_later (outcome.Witness keep) old mid new more first ends = tt
  ends_later outcome.Usage old mid new more first ends = tt
  ends_later (outcome.Refused p fault) old mid new more first ends = ends_on (file_of source p) old mid new more first ends
  ends_later (outcome.Spent s) old mid new more first ends = tt
  ends_later (outcome.Limit l) old mid new more first ends = limit_later l old mid new more first ends
  ends_later (outcome.ReadFault p) old mid new more first ends = ends_on (file_of source p) old mid new more first ends
  ends_later outcome.WriteFault old mid new more first ends = tt
  ends_later outcome.NoMemory old mid new more first ends = tt

  pub ends_after_all : (known : Type 0) (files : List TableOf → List Text) (reached : List Text) (o : Outcome) (old mid new : List Text)
      → AddsAll known files reached old mid → EndsAt source o mid new → EndsAt source o old new
  ends_after_all known files reached o old mid new all ends = ends_later o old mid new (files all.named.0) all.named.1 ends

  -- it speaks of the two queries together, which have no file of their own
  pub ends_between : (o : Outcome) (old new : List Text) → SpeaksOf (λ p. p ≡ Queries) o → EndsAt source o old new
  ends_between outcome.Agree old new speaks = tt
  ends_between (outcome.Witness keep) old new speaks = tt
  ends_between outcome.Usage old new speaks = tt
  ends_between (outcome.Refused p fault) old new speaks = no_file source p old new speaks
  ends_between (outcome.Spent s) old new speaks = tt
  ends_between (outcome.Limit (limit.TooLong p)) old new speaks = no_file source p old new speaks
  ends_between (outcome.Limit limit.Tables) old new speaks = tt
  ends_between (outcome.Limit (limit.Columns table)) old new speaks = tt
  ends_between (outcome.Limit (limit.Rules table)) old new speaks = tt
  ends_between (outcome.Limit limit.Rows) old new speaks = tt
  ends_between (outcome.Limit (limit.Work work)) old new speaks = tt
  ends_between (outcome.ReadFault p) old new speaks = no_file source p old new speaks
  ends_between outcome.WriteFault old new speaks = tt
  ends_between outcome.NoMemory old new speaks = tt

  pub if_between : {T : Type 0} (r : Result T Outcome) (old new : List Text) → IfErr r (SpeaksOf (λ p. p ≡ Queries)) → IfErr r (λ o. EndsAt source o old new)
  if_between (Ok x) old new speaks = tt
  if_between (Err o) old new speaks = ends_between o old new speaks

  pub if_at : {T : Type 0} (r : Result T Outcome) (part : Part) (old new : List Text) → new ≡ old ++ part_files source part → IfErr r (SpeaksOf (λ p. p ≡ part)) → IfErr r (λ o. EndsAt source o old new)
  if_at (Ok x) part old new is speaks = tt
  if_at (Err o) part old new is speaks = ends_at part o old new is speaks

  -- it is the limit of the work
  no_work : (b : Bool) (input : Accepted) (work : ℕ) (p : Part) (fault : Fault) → (if b then Ok input else Err (outcome.Limit (limit.Work work))) ≡ Err (outcome.Refused p fault) → ⊥
  no_work true input work p fault e = cc e
  no_work false input work p fault e = cc e

  not_long : (b : Bool) (input : Accepted) (work : ℕ) (p : Part) → (if b then Ok input else Err (outcome.Limit (limit.Work work))) ≡ Err (outcome.Limit (limit.TooLong p)) → ⊥
  not_long true input work p e = cc e
  not_long false input work p e = cc e

  ends_work : (input : Accepted) (o : Outcome) (old new : List Text) → Refuses (within_limit input) o → EndsAt source o old new
  ends_work input outcome.Agree old new refuses = tt
  ends_work input (outcome.Witness keep) old new refuses = tt
  ends_work input outcome.Usage old new refuses = tt
  ends_work input (outcome.Refused p fault) old new refuses =
      absurd (no_work (nat_le (total_work input) input.work_limit) input (total_work input) p (placeless fault) refuses.1)
  ends_work input (outcome.Spent s) old new refuses = tt
  ends_work input (outcome.Limit (limit.TooLong p)) old new refuses =
      absurd (not_long (nat_le (total_work input) input.work_limit) input (total_work input) p refuses.1)
  ends_work input (outcome.Limit limit.Tables) old new refuses = tt
  ends_work input (outcome.Limit (limit.Columns table)) old new refuses = tt
  ends_work input (outcome.Limit (limit.Rules table)) old new refuses = tt
  ends_work input (outcome.Limit limit.Rows) old new refuses = tt
  ends_work input (outcome.Limit (limit.Work w)) old new refuses = tt
  ends_work input (outcome.ReadFault p) old new refuses = absurd refuses
  ends_work input outcome.WriteFault old new refuses = tt
  ends_work input outcome.NoMemory old new refuses = tt

  pub if_work : {T : Type 0} (r : Result T Outcome) (input : Accepted) (old new : List Text) → IfErr r (Refuses (within_limit input)) → IfErr r (λ o. EndsAt source o old new)
  if_work (Ok x) input old new refuses = tt
  if_work (Err o) input old new refuses = ends_work input o old new refuses

-- ---- of a command
