-- What the rows of a call's answers follow from, and that an accepted command over files and sinks
-- that don't fail gets a verdict.
use Rattle.std.proofs.Common.{◌≡◌, ℕ, IsTrue, List, refl, sym, ap, subst, inl, inr, ◌∙◌, arith}
use Rattle.std.specs.Prelude.{Option, Some, None, Result, Ok, Err, IsSomeAnd, IfOk, IsOkAnd, ◌<◌, ◌≤◌, ◌^◌, ⊤}
use Rattle.std.specs.Option.{ForSome}
use Rattle.rt_io.specs.Logs.{Log, Broke, NoSinkRose, at_place}
use Rattle.rt_io.specs.declared.place.Place.{Place}
use Rattle.rt_io.specs.declared.place.Place.TheVariants as at
use Rattle.rt_schema.specs.Given.{places}
use Rattle.rt_schema.specs.declared.table.Table.{Table}
use Rattle.rt_input.specs.declared.outcome.Outcome.{Outcome}
use Rattle.rt_input.specs.declared.outcome.Outcome.TheVariants as outcome
use Rattle.rt_input.specs.declared.outcome.Spent.{Spent}
use Rattle.rt_input.specs.declared.part.Part.{Part}
use Rattle.rt_input.specs.declared.part.Part.TheVariants as parts
use Rattle.rt_input.specs.Reading.{Call}
use Rattle.rt_top.specs.Answers.{HasRoom, IfText}
use Rattle.rt_input.specs.Judged as top
use Rattle.rt_input.specs.Judged.{HasTable, IsNamed, schema_judged}
use Rattle.rt_input.specs.Held.{Holding}
use Rattle.rt_input.specs.Source.{source_from, tables_in}
use Rattle.rt_ra_run.specs.declared.asked.Asked.{Asked}
use Rattle.rt_ra_run.specs.declared.command.RaCommand.{RaCommand}
use Rattle.rt_ra_run.specs.declared.outcome.RaOutcome.{RaOutcome}
use Rattle.rt_ra_run.specs.declared.outcome.RaOutcome.TheVariants.{Verdict, Refused}
use Rattle.rt_ra_run.specs.Answers.{IfSaid, IsRead, IsTextOf, IsVerdictOrMemory, Judged, Judges, NoFileRose, ReadFaultAt, ReadFaultRow, Row, SpentRow, Writes, WritesAll, YieldsTo}
use Rattle.rt_ra_run.specs.Asked.{HasNumbers, IsAsked}
use Rattle.rt_ra_run.specs.Judged.{Reaches, asked_judged, command_judged, paths_of, ra_judged}
use Rattle.rt_ra_run.specs.Texts.{place}
use Rattle.rt_ra_run.specs.Words.{ra_command}

-- ---- from the reading of the files to the rows

some_and : {T : Type 0} (P : T → Type 0) (o : Option T) (x : T) → o ≡ Some x → P x → IsSomeAnd o P
some_and {T = X} P o x e p = subst (λ (q : Option X). IsSomeAnd q P) (sym e) p

judged-command : (c : Call) (k : RaCommand) → ra_command c.words ≡ Some k → ra_judged c.words c.files.held ≡ asked_judged k c.files.held
judged-command c k e = ap (λ (o : Option RaCommand). command_judged o c.files.held) e

-- a row, where it isn't out of memory
abbrev pub Stop : Call → RaOutcome → Type 0
Stop c (Verdict outcome.NoMemory) = ⊤
Stop c o = Row c o

pub read_row : (c : Call) (k : RaCommand) (a : Asked) → ra_command c.words ≡ Some k → IsAsked a → HasNumbers k a
    → (IsTrue c.files.tells → asked_judged k c.files.held ≡ Ok a) → IsRead c a
read_row c k a e sound has told =
    record { sound = sound; numbers = some_and (λ k. HasNumbers k a) _ k e has; told = λ t. judged-command c k e ∙ told t }

-- ---- from the verdict to the rows

verdict_row : (c : Call) (a : Asked) (o : Outcome) (said : List ℕ) → IsRead c a → Judges a o said → Row c (Verdict o)
verdict_row c a outcome.Agree said read judges = (a, read, judges.0)
verdict_row c a (outcome.Witness keep) said read judges = (a, read, judges.0)
verdict_row c a (outcome.Spent s) said read judges = (a, read, judges.0, judges.1)
verdict_row c a outcome.Usage said read judges = absurd judges
verdict_row c a (outcome.Refused part fault) said read judges = absurd judges
verdict_row c a (outcome.Limit limit) said read judges = absurd judges
verdict_row c a (outcome.ReadFault part) said read judges = absurd judges
verdict_row c a outcome.WriteFault said read judges = absurd judges
verdict_row c a outcome.NoMemory said read judges = absurd judges

verdict_says : (c : Call) (a : Asked) (o : Outcome) (said : List ℕ) → IsRead c a → Judges a o said → IsTextOf c (Verdict o) said
verdict_says c a outcome.Agree said read judges = (a, read, judges.0, judges.1)
verdict_says c a (outcome.Witness keep) said read judges = (a, read, judges.0, judges.1)
verdict_says c a (outcome.Spent s) said read judges = (a, read, judges.0, judges.1, judges.2)
verdict_says c a outcome.Usage said read judges = absurd judges
verdict_says c a (outcome.Refused part fault) said read judges = absurd judges
verdict_says c a (outcome.Limit limit) said read judges = absurd judges
verdict_says c a (outcome.ReadFault part) said read judges = absurd judges
verdict_says c a outcome.WriteFault said read judges = absurd judges
verdict_says c a outcome.NoMemory said read judges = absurd judges

pub judged_row : (c : Call) (a : Asked) (o : RaOutcome) (said : List ℕ) → IsRead c a → Judged a o said → Row c o
judged_row c a (Verdict o) said read judges = verdict_row c a o said read judges
judged_row c a (Refused part fault) said read judges = absurd judges

pub judged_says : (c : Call) (a : Asked) (o : RaOutcome) (said : List ℕ) → IsRead c a → Judged a o said → IsTextOf c o said
judged_says c a (Verdict o) said read judges = verdict_says c a o said read judges
judged_says c a (Refused part fault) said read judges = absurd judges

-- ---- completeness

-- a part that is reached is one that the command names
named_from_reached : (k : RaCommand) (held : Holding) (part : Part) → Reaches k held part → IsNamed (source_from None (paths_of k)) held part
named_from_reached k held parts.Schema reached = tt
named_from_reached k held (parts.Table at name) reached = weaker (schema_judged (tables_in k.schema k.dir) held) reached
  where
    weaker : (r : Result (List Table) Outcome) → IsOkAnd r (top.TableReached (tables_in k.schema k.dir) held at name) → IsOkAnd r (HasTable at name)
    weaker (Ok schema) h = h.0
    weaker (Err e) h = h
named_from_reached k held parts.Query1 reached = tt
named_from_reached k held parts.Query2 reached = tt
named_from_reached k held parts.Queries reached = absurd reached

-- so its file didn't fail
no_read_fault : (c : Call) (part : Part) → ReadFaultRow c part → IsTrue c.files.tells → NoFileRose c → ⊥
no_read_fault c part row tells calm = by_command (ra_command c.words) refl row
  where
    by_command : (o : Option RaCommand) → ra_command c.words ≡ o → IsSomeAnd o (ReadFaultAt c.files part) → ⊥
    by_command None is h = h
    by_command (Some k) is h = calm k is part (named_from_reached k c.files.held part (h.reached tells)) h.failed

-- a refusal isn't accepted
not_accepted : {T E : Type 0} (r : Result T E) (e : E) (x : T) → r ≡ Err e → r ≡ Ok x → ⊥
not_accepted r e x is ok = cc

no_sink_fault : (out err : Log) (p : Place) → NoSinkRose out err → Broke (at_place p out err) → ⊥
no_sink_fault out err at.Out calm broke = calm.out_rose broke
no_sink_fault out err at.Err calm broke = calm.err_rose broke

-- a budget that no search can spend isn't spent
no_room : (conflicts : Option ℕ) (budget most : ℕ) → conflicts ≡ Some budget → budget < most → ForSome conflicts (λ b. most ≤ b) → ⊥
no_room None budget most is small room = cc
no_room (Some b) budget most is small room = let same : b ≡ budget = cc in omega (arith, same, small, room)

not_given_up : (c : Call) (s : Spent) (a : Asked) → SpentRow c s → IsTrue c.files.tells → ra_judged c.words c.files.held ≡ Ok a → HasRoom a.input → ⊥
not_given_up c s a row tells ok room =
    let other = row.0 in
    let same : other ≡ a = let e : Ok other ≡ Ok a = sym (row.1.told tells) ∙ ok in cc in
    let bound : ForSome other.input.conflicts (λ b. 2 ^ places other.input.given.tables ≤ b) = subst (λ (x : Asked). HasRoom x.input) (sym same) room in
    no_room other.input.conflicts s.budget (2 ^ places other.input.given.tables) row.2 row.3.small bound

row_verdict : (c : Call) (o : RaOutcome) (a : Asked) → Row c o → IsTrue c.files.tells → NoFileRose c → ra_judged c.words c.files.held ≡ Ok a → HasRoom a.input → IsVerdictOrMemory o
row_verdict c (Verdict outcome.Agree) a row tells calm ok room = tt
row_verdict c (Verdict (outcome.Witness keep)) a row tells calm ok room = tt
row_verdict c (Verdict outcome.Usage) a row tells calm ok room = not_accepted (ra_judged c.words c.files.held) (Verdict outcome.Usage) a (ap (λ (o : Option RaCommand). command_judged o c.files.held) row) ok
row_verdict c (Verdict (outcome.Refused part fault)) a row tells calm ok room = not_accepted _ _ a (row.2 tells) ok
row_verdict c (Verdict (outcome.Spent s)) a row tells calm ok room = not_given_up c s a row tells ok room
row_verdict c (Verdict (outcome.Limit l)) a row tells calm ok room = not_accepted _ _ a (row.1 tells) ok
row_verdict c (Verdict (outcome.ReadFault part)) a row tells calm ok room = no_read_fault c part row tells calm
row_verdict c (Verdict outcome.WriteFault) a row tells calm ok room = row
row_verdict c (Verdict outcome.NoMemory) a row tells calm ok room = tt
row_verdict c (Refused part fault) a row tells calm ok room = not_accepted _ _ a (row.2 tells) ok

pub gets_verdict : (c : Call) (out err : Log) (o : RaOutcome) (said : List ℕ) (result : RaOutcome) (a : Asked) → Row c o → Writes out err o said result
    → IsTrue c.files.tells → NoFileRose c → NoSinkRose out err → ra_judged c.words c.files.held ≡ Ok a → HasRoom a.input → IsVerdictOrMemory result
gets_verdict c out err o said result a row spoke tells calm sinks ok room = elim spoke.ends [
  | inl h ↦ subst IsVerdictOrMemory (sym h.0) (row_verdict c o a row tells calm ok room)
  | inr h ↦ elim h [
    | inl f ↦ absurd (no_sink_fault out err (place o) sinks f.1)
    | inr m ↦ subst IsVerdictOrMemory (sym m.0) tt
  ]
]

-- ---- refusals

refused_as : {T : Type 0} (r : Result T RaOutcome) (refusal o : RaOutcome) → r ≡ Err refusal → r ≡ Err o → refusal ≡ o
refused_as r refusal o p q = cc

-- the outcome that its row allows, where there is a refusal
row_yields : (c : Call) (o refusal : RaOutcome) → Row c o → IsTrue c.files.tells → ra_judged c.words c.files.held ≡ Err refusal → YieldsTo refusal o
row_yields c (Verdict outcome.Agree) refusal row tells is = not_accepted _ refusal row.0 is (row.1.told tells)
row_yields c (Verdict (outcome.Witness keep)) refusal row tells is = not_accepted _ refusal row.0 is (row.1.told tells)
row_yields c (Verdict outcome.Usage) refusal row tells is = refused_as (ra_judged c.words c.files.held) refusal (Verdict outcome.Usage) is (ap (λ (o : Option RaCommand). command_judged o c.files.held) row)
row_yields c (Verdict (outcome.Refused part fault)) refusal row tells is = refused_as _ refusal _ is (row.2 tells)
row_yields c (Verdict (outcome.Spent s)) refusal row tells is = not_accepted _ refusal row.0 is (row.1.told tells)
row_yields c (Verdict (outcome.Limit l)) refusal row tells is = refused_as _ refusal _ is (row.1 tells)
row_yields c (Verdict (outcome.ReadFault part)) refusal row tells is = tt
row_yields c (Verdict outcome.WriteFault) refusal row tells is = tt
row_yields c (Verdict outcome.NoMemory) refusal row tells is = tt
row_yields c (Refused part fault) refusal row tells is = refused_as _ refusal _ is (row.2 tells)

pub yields : (c : Call) (out err : Log) (o : RaOutcome) (said : List ℕ) (result refusal : RaOutcome) → Row c o → Writes out err o said result
    → IsTrue c.files.tells → ra_judged c.words c.files.held ≡ Err refusal → YieldsTo refusal result
yields c out err o said result refusal row spoke tells is = elim spoke.ends [
  | inl h ↦ subst (YieldsTo refusal) (sym h.0) (row_yields c o refusal row tells is)
  | inr h ↦ elim h [
    | inl f ↦ subst (YieldsTo refusal) (sym f.0) tt
    | inr m ↦ subst (YieldsTo refusal) (sym m.0) tt
  ]
]

-- ---- texts

if_text : (o : Outcome) (P : Type 0) → P → IfText o P
if_text outcome.Agree P p = p
if_text (outcome.Witness keep) P p = p
if_text outcome.Usage P p = p
if_text (outcome.Refused part fault) P p = p
if_text (outcome.Spent s) P p = p
if_text (outcome.Limit l) P p = p
if_text (outcome.ReadFault part) P p = p
if_text outcome.WriteFault P p = tt
if_text outcome.NoMemory P p = tt

if_said : (o : RaOutcome) (P : Type 0) → P → IfSaid o P
if_said (Verdict o) P p = if_text o P p
if_said (Refused part fault) P p = p

-- what was spoken to the end was said
pub said_of : (c : Call) (out err : Log) (o : RaOutcome) (said : List ℕ) (result : RaOutcome) → IsTextOf c o said → Writes out err o said result → IfSaid result (WritesAll c result out err)
said_of c out err o said result says spoke = elim spoke.ends [
  | inl h ↦ subst (λ (r : RaOutcome). IfSaid r (WritesAll c r out err)) (sym h.0) (if_said o (WritesAll c o out err) (record { whole = (said, says, h.1); kept = spoke.kept }))
  | inr h ↦ elim h [
    | inl f ↦ subst (λ (r : RaOutcome). IfSaid r (WritesAll c r out err)) (sym f.0) tt
    | inr m ↦ subst (λ (r : RaOutcome). IfSaid r (WritesAll c r out err)) (sym m.0) tt
  ]
]

-- ---- a fact for a value that is there

pub if_ok : {X E : Type 0} (P Q : X → Type 0) (r : Result X E) → ((x : X) → P x → Q x) → IfOk r P → IfOk r Q
if_ok P Q (Ok x) f p = f x p
if_ok P Q (Err e) f p = tt
