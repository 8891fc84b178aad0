-- What the rows of a call's answers follow from, and that an accepted command over files and sinks
-- that don't fail gets a verdict.
use Rattle.std.proofs.Common.{◌≡◌, ℕ, List, Result, Ok, Err, refl, sym, ap, subst, inl, inr, ◌∙◌, arith}
use Rattle.std.specs.Prelude.{Option, Some, None, IsSomeAnd, ◌<◌, ◌≤◌, ◌^◌}
use Rattle.std.specs.Option.{ForSome}
use Rattle.rt_io.specs.Edge.{Rose}
use Rattle.rt_io.specs.Logs.{Log, NoSinkRose, at_place}
use Rattle.rt_schema.specs.Given.{places}
use Rattle.rt_input.specs.declared.outcome.Outcome.{Outcome}
use Rattle.rt_input.specs.declared.outcome.Outcome.TheVariants as outcome
use Rattle.rt_input.specs.declared.outcome.Spent.{Spent}
use Rattle.rt_input.specs.declared.part.Part.{Part}
use Rattle.rt_io.specs.declared.place.Place.{Place}
use Rattle.rt_io.specs.declared.place.Place.TheVariants as at
use Rattle.rt_input.specs.Accepted.{Accepted}
use Rattle.rt_input.specs.Begun.{EndsFor}
use Rattle.rt_input.specs.Source.{source_of}
use Rattle.rt_io.specs.Command.{command}
use Rattle.rt_io.specs.Ranges.{Command}
use Rattle.rt_input.specs.Judged.{command_judged, judged}
use Rattle.rt_input.specs.Texts.{place}
use Rattle.rt_input.specs.Reading.{Call, ReadFaultAt, ReadFaultRow, IsRead, IsTold}
use Rattle.rt_input.proofs.RowLemmas.{known, named_from_reached}
use Rattle.rt_top.specs.Answers.{HasRoom, IsVerdictOrMemory, SpentRow, NoFileRose, Row, IfText, WritesAll, Writes, Judges, IsTextOf}

-- ---- from the verdict on an input to the rows

pub verdict_row : (c : Call) (input : Accepted) (o : Outcome) (said : List ℕ) → IsRead c input → Judges input o said → Row c o
verdict_row c input outcome.Agree said read judges = (input, read, judges.0)
verdict_row c input (outcome.Witness keep) said read judges = (input, read, judges.0)
verdict_row c input (outcome.Spent s) said read judges = (input, read, judges.0, judges.1)
verdict_row c input outcome.Usage said read judges = absurd judges
verdict_row c input (outcome.Refused part fault) said read judges = absurd judges
verdict_row c input (outcome.Limit limit) said read judges = absurd judges
verdict_row c input (outcome.ReadFault part) said read judges = absurd judges
verdict_row c input outcome.WriteFault said read judges = judges
verdict_row c input outcome.NoMemory said read judges = judges

pub verdict_says : (c : Call) (input : Accepted) (o : Outcome) (said : List ℕ) → IsRead c input → Judges input o said → IsTextOf c o said
verdict_says c input outcome.Agree said read judges = (input, read, judges.0, judges.1)
verdict_says c input (outcome.Witness keep) said read judges = (input, read, judges.0, judges.1)
verdict_says c input (outcome.Spent s) said read judges = (input, read, judges.0, judges.1, judges.2)
verdict_says c input outcome.Usage said read judges = absurd judges
verdict_says c input (outcome.Refused part fault) said read judges = absurd judges
verdict_says c input (outcome.Limit limit) said read judges = absurd judges
verdict_says c input (outcome.ReadFault part) said read judges = absurd judges
verdict_says c input outcome.WriteFault said read judges = absurd judges
verdict_says c input outcome.NoMemory said read judges = absurd judges

-- ---- which file is the last one

pub verdict_ends : (input : Accepted) (o : Outcome) (said : List ℕ) (k : Option Command) (old new : List (List ℕ)) → Judges input o said → EndsFor k o old new
verdict_ends input outcome.Agree said k old new judges = λ command is. tt
verdict_ends input (outcome.Witness keep) said k old new judges = λ command is. tt
verdict_ends input (outcome.Spent s) said k old new judges = λ command is. tt
verdict_ends input outcome.Usage said k old new judges = absurd judges
verdict_ends input (outcome.Refused part fault) said k old new judges = absurd judges
verdict_ends input (outcome.Limit limit) said k old new judges = absurd judges
verdict_ends input (outcome.ReadFault part) said k old new judges = absurd judges
verdict_ends input outcome.WriteFault said k old new judges = absurd judges
verdict_ends input outcome.NoMemory said k old new judges = absurd judges

-- an error of writing, and want of memory, name no part
pub spoken_ends : (out err : Log) (o : Outcome) (said : List ℕ) (result : Outcome) (k : Option Command) (old new : List (List ℕ)) → Writes out err o said result
    → EndsFor k o old new → EndsFor k result old new
spoken_ends out err o said result k old new spoke ends = elim spoke.ends [
  | inl h ↦ subst (λ (r : Outcome). EndsFor k r old new) (sym h.0) ends
  | inr h ↦ elim h [
    | inl f ↦ subst (λ (r : Outcome). EndsFor k r old new) (sym f.0) (λ command is. tt)
    | inr m ↦ subst (λ (r : Outcome). EndsFor k r old new) (sym m.0) (λ command is. tt)
  ]
]

-- ---- completeness

-- a part that is reached is one that the command names, so its file didn't fail
no_read_fault : (c : Call) (part : Part) → ReadFaultRow c part → IsTold c → NoFileRose c → ⊥
no_read_fault c part row tells calm = by_command (command c.words) refl row
  where
    by_command : (o : Option Command) → command c.words ≡ o → IsSomeAnd o (ReadFaultAt c.files part) → ⊥
    by_command None is h = h
    by_command (Some k) is h = calm k is part (named_from_reached (source_of k) c.files.held part (h.reached (known c k is tells))) h.failed

-- a refusal isn't accepted
not_accepted : {T E : Type 0} (r : Result T E) (e : E) (x : T) → r ≡ Err e → r ≡ Ok x → ⊥
not_accepted r e x is ok = cc

no_sink_fault : (out err : Log) (p : Place) → NoSinkRose out err → Rose (at_place p out err).before (at_place p out err).after → ⊥
no_sink_fault out err at.Out calm rose = calm.out_rose rose
no_sink_fault out err at.Err calm rose = calm.err_rose rose

-- a budget that no search can spend isn't spent
no_room : (conflicts : Option ℕ) (budget most : ℕ) → conflicts ≡ Some budget → budget < most → ForSome conflicts (λ b. most ≤ b) → ⊥
no_room None budget most is small room = cc
no_room (Some b) budget most is small room = let same : b ≡ budget = cc in omega (arith, same, small, room)

not_given_up : (c : Call) (s : Spent) (input : Accepted) → SpentRow c s → IsTold c → judged c.words c.files.held ≡ Ok input → HasRoom input → ⊥
not_given_up c s input row tells ok room =
    let other = row.0 in
    let same : other ≡ input = let e : Ok other ≡ Ok input = sym (row.1.told tells) ∙ ok in cc in
    let bound : ForSome other.conflicts (λ b. 2 ^ places other.given.tables ≤ b) = subst HasRoom (sym same) room in
    no_room other.conflicts s.budget (2 ^ places other.given.tables) row.2 row.3.small bound

row_verdict : (c : Call) (o : Outcome) (input : Accepted) → Row c o → IsTold c → NoFileRose c → judged c.words c.files.held ≡ Ok input → HasRoom input → IsVerdictOrMemory o
row_verdict c outcome.Agree input row tells calm ok room = tt
row_verdict c (outcome.Witness keep) input row tells calm ok room = tt
row_verdict c outcome.Usage input row tells calm ok room = not_accepted (judged c.words c.files.held) outcome.Usage input (ap (command_judged c.files.held) row) ok
row_verdict c (outcome.Refused part fault) input row tells calm ok room = not_accepted _ _ input (row.2 tells) ok
row_verdict c (outcome.Spent s) input row tells calm ok room = not_given_up c s input row tells ok room
row_verdict c (outcome.Limit l) input row tells calm ok room = not_accepted _ _ input (row.1 tells) ok
row_verdict c (outcome.ReadFault part) input row tells calm ok room = no_read_fault c part row tells calm
row_verdict c outcome.WriteFault input row tells calm ok room = row
row_verdict c outcome.NoMemory input row tells calm ok room = tt

pub gets_verdict : (c : Call) (out err : Log) (o : Outcome) (said : List ℕ) (result : Outcome) (input : Accepted) → Row c o → Writes out err o said result
    → IsTold c → NoFileRose c → NoSinkRose out err → judged c.words c.files.held ≡ Ok input → HasRoom input → IsVerdictOrMemory result
gets_verdict c out err o said result input row spoke tells calm sinks ok room = elim spoke.ends [
  | inl h ↦ subst IsVerdictOrMemory (sym h.0) (row_verdict c o input row tells calm ok room)
  | inr h ↦ elim h [
    | inl f ↦ absurd (no_sink_fault out err (place o) sinks f.1)
    | inr m ↦ subst IsVerdictOrMemory (sym m.0) tt
  ]
]

-- ---- refusals

-- ---- texts

if_text : (o : Outcome) (P : Type 0) → P → IfText o P
if_text outcome.Agree P p = p
if_text (outcome.Witness keep) P p = p
if_text outcome.Usage P p = p
if_text (outcome.Refused part fault) P p = p
if_text (outcome.Spent s) P p = p
if_text (outcome.Limit l) P p = p
if_text (outcome.ReadFault part) P p = p
if_text outcome.WriteFault P p = tt
if_text outcome.NoMemory P p = tt

-- what was spoken to the end was said
pub said_of : (c : Call) (out err : Log) (o : Outcome) (said : List ℕ) (result : Outcome) → IsTextOf c o said → Writes out err o said result → IfText result (WritesAll c result out err)
said_of c out err o said result says spoke = elim spoke.ends [
  | inl h ↦ subst (λ (r : Outcome). IfText r (WritesAll c r out err)) (sym h.0) (if_text o (WritesAll c o out err) (record { whole = (said, says, h.1); kept = spoke.kept }))
  | inr h ↦ elim h [
    | inl f ↦ subst (λ (r : Outcome). IfText r (WritesAll c r out err)) (sym f.0) tt
    | inr m ↦ subst (λ (r : Outcome). IfText r (WritesAll c r out err)) (sym m.0) tt
  ]
]
